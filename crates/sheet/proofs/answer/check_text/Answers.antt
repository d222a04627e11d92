-- `check_text` meets its contract: the words that it lends are those of the text.
use mathlib.Core.Path.{sym, ◌∙◌}
use Rattle.std.specs.Prelude.{Ok, Err}
use Rattle.std.proofs.lemmas.Result.{err_from_is_err_and}
use Rattle.text.proofs.Answers.{got-words, got_fault}
use Rattle.sheet.specs.Program as Program
use Rattle.sheet.proofs.answer.check_text.Goals as goal

pub returns-then-text-gt-TEXT_BYTES : goal.returns-then-text-gt-TEXT_BYTES
returns-then-text-gt-TEXT_BYTES c = Program.long c.if-text-gt-TEXT_BYTES.true

pub returns-in_err-count : goal.returns-in_err-count
returns-in_err-count c =
    let p = err_from_is_err_and c.from_residual.result c.from_residual.ensures.1 in
    let faulty = got_fault _ _ (sym c.in_err-count.was ∙ c.words_of_text.ensures.answer) in
    rw (p.1, p.2) (Program.fault c.if-text-gt-TEXT_BYTES.false faulty)

pub returns-in_err-check_words : goal.returns-in_err-check_words
returns-in_err-check_words c =
    let p = err_from_is_err_and c.from_residual-in_err-check_words.result c.from_residual-in_err-check_words.ensures.1 in
    let read = c.words_of_text in
    let got = got-words _ _ _ _ (sym c.in_ok-count.was ∙ read.ensures.answer) read.ensures.left read.auto.words in
    rw (p.1, p.2)
    (Program.words {check = Err _} c.if-text-gt-TEXT_BYTES.false got.is (rw (got.head, c.in_err-check_words.was) at c.check_words.ensures))

pub returns : goal.returns
returns c =
    let read = c.words_of_text in
    let got = got-words _ _ _ _ (sym c.in_ok-count.was ∙ read.ensures.answer) read.ensures.left read.auto.words in
    Program.words {check = Ok tt} c.if-text-gt-TEXT_BYTES.false got.is (rw (got.head, c.in_ok-check_words.was) at c.check_words.ensures)
