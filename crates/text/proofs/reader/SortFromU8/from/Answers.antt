-- `from` meets its contract: one way out for each sort.
use mathlib.Core.Path.{sym, ◌∙◌}
use Rattle.text.specs.Texts.{sort_of}
use Rattle.text.proofs.reader.SortFromU8.from.Goals as goal

pub returns-then-is_blank : goal.returns-then-is_blank
unfolding sort_of
returns-then-is_blank c = rw (sym c.is_blank.ensures ∙ c.if-is_blank.true)

pub returns-then-is_ascii_digit : goal.returns-then-is_ascii_digit
unfolding sort_of
returns-then-is_ascii_digit c =
    rw (sym c.is_blank.ensures ∙ c.if-is_blank.false, sym c.is_ascii_digit.ensures.value ∙ c.if-is_ascii_digit.true)

pub returns-else-is_ascii_digit : goal.returns-else-is_ascii_digit
unfolding sort_of
returns-else-is_ascii_digit c =
    rw (sym c.is_blank.ensures ∙ c.if-is_blank.false, sym c.is_ascii_digit.ensures.value ∙ c.if-is_ascii_digit.false)
