-- `same` meets its contract: two words are the same exactly where they are equal as lists.
use mathlib.Core.Path.{sym, ◌∙◌}
use lib.Pointwise.{bytes_decides}
use Rattle.sheet.proofs.SameWords.{is_same}
use Rattle.sheet.proofs.asked.same.Goals as goal

pub returns : goal.returns
returns c =
    let word = c.args.word.now in
    let other = c.args.name.now in
    c.eq.ensures ∙ sym (is_same word other _ (bytes_decides word other))
