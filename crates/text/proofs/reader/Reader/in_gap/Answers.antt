-- `in_gap` meets its contract: a law for each sort of byte.
use mathlib.Core.Path.{sym, ◌∙◌}
use Rattle.text.proofs.Moving.{gap-blank, gap-full, gap-digit, gap_other}
use Rattle.text.proofs.reader.Reader.in_gap.Goals as goal

pub returns-in-Blank : goal.returns-in-Blank
returns-in-Blank c = gap-blank _ _ c.requires (sym c.from.ensures ∙ c.in-Blank.is)

pub returns-then-full : goal.returns-then-full
returns-then-full c = rw c.stopped.ensures (gap-full _ _ c.requires _ (sym c.from.ensures ∙ c.in-Digit.is) c.if-full.true)

pub returns-else-full : goal.returns-else-full
returns-else-full c =
    rw c.from-else-full.ensures (gap-digit _ _ c.requires _ (sym c.from.ensures ∙ c.in-Digit.is) c.if-full.false)

pub returns-in-Other : goal.returns-in-Other
returns-in-Other c = rw c.stopped-in-Other.ensures (gap_other _ _ c.requires (sym c.from.ensures ∙ c.in-Other.is))
