-- `check_bytes` meets its contract: the words that it lends are all the words of the bytes.
use mathlib.Core.Path.{◌∙◌}
use Rattle.std.specs.Prelude.{Ok, Err}
use Rattle.std.proofs.lemmas.Result.{err_from_is_err_and}
use Rattle.sheet.specs.Program as Program
use Rattle.sheet.proofs.answer.check_bytes.Goals as goal

pub returns-in_err-cut : goal.returns-in_err-cut
returns-in_err-cut c =
    let p = err_from_is_err_and c.from_residual.result c.from_residual.ensures.1 in
    rw (p.1, p.2) (Program.unreadable (c.sheets_of.ensures.refused _ c.in_err-cut.was).0)

pub whole-requires : goal.whole-requires
whole-requires c = (c.sheets_of.ensures.taken _ c.in_ok-cut.was).1.inside

pub returns-in_err-check_words : goal.returns-in_err-check_words
returns-in_err-check_words c =
    let p = err_from_is_err_and c.from_residual-in_err-check_words.result c.from_residual-in_err-check_words.ensures.1 in
    let taken = c.sheets_of.ensures.taken _ c.in_ok-cut.was in
    rw (p.1, p.2)
    (Program.words {check = Err _} taken.0 (rw (c.whole.ensures ∙ taken.1.whole, c.in_err-check_words.was) at c.check_words.ensures))

pub returns : goal.returns
returns c =
    let taken = c.sheets_of.ensures.taken _ c.in_ok-cut.was in
    Program.words {check = Ok tt} taken.0 (rw (c.whole.ensures ∙ taken.1.whole, c.in_ok-check_words.was) at c.check_words.ensures)
