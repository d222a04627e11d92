-- `bytes_of_text` meets its contract: the text's words stand at the head of the local ones, and their bytes are all put.
use mathlib.Core.Path.{sym, ◌∙◌}
use Rattle.std.proofs.lemmas.Result.{err_from_is_err_and}
use Rattle.text.proofs.Answers.{got-words, got_fault}
use Rattle.input.proofs.Turning.{text-long, sheet-tight, text-faulty, bytes-done}
use Rattle.input.proofs.turn.bytes_of_text.Goals as goal

pub returns-then-text-gt-TEXT_BYTES-clause-answer : goal.returns-then-text-gt-TEXT_BYTES-clause-answer
returns-then-text-gt-TEXT_BYTES-clause-answer c = (text-long c.args.text.now c.args.sheet.now c.if-text-gt-TEXT_BYTES.true).0

pub returns-then-text-gt-TEXT_BYTES-clause-left : goal.returns-then-text-gt-TEXT_BYTES-clause-left
returns-then-text-gt-TEXT_BYTES-clause-left c = (text-long c.args.text.now c.args.sheet.now c.if-text-gt-TEXT_BYTES.true).1

pub returns-then-sheet-lt-SHEETS_BYTES-clause-answer : goal.returns-then-sheet-lt-SHEETS_BYTES-clause-answer
returns-then-sheet-lt-SHEETS_BYTES-clause-answer c =
    (sheet-tight c.args.text.now c.args.sheet.now c.if-text-gt-TEXT_BYTES.false c.if-sheet-lt-SHEETS_BYTES.true).0

pub returns-then-sheet-lt-SHEETS_BYTES-clause-left : goal.returns-then-sheet-lt-SHEETS_BYTES-clause-left
returns-then-sheet-lt-SHEETS_BYTES-clause-left c =
    (sheet-tight c.args.text.now c.args.sheet.now c.if-text-gt-TEXT_BYTES.false c.if-sheet-lt-SHEETS_BYTES.true).1

pub returns-in_err-count-clause-answer : goal.returns-in_err-count-clause-answer
returns-in_err-count-clause-answer c =
    let p = err_from_is_err_and c.from_residual.result c.from_residual.ensures.1 in
    let faulty = got_fault _ _ (sym c.in_err-count.was ∙ c.words_of_text.ensures.answer) in
    rw (p.1, p.2) (text-faulty c.args.text.now c.args.sheet.now c.if-text-gt-TEXT_BYTES.false c.if-sheet-lt-SHEETS_BYTES.false _ faulty).0

pub returns-in_err-count-clause-left : goal.returns-in_err-count-clause-left
returns-in_err-count-clause-left c =
    let faulty = got_fault _ _ (sym c.in_err-count.was ∙ c.words_of_text.ensures.answer) in
    (text-faulty c.args.text.now c.args.sheet.now c.if-text-gt-TEXT_BYTES.false c.if-sheet-lt-SHEETS_BYTES.false _ faulty).1

pub returns-clause-answer : goal.returns-clause-answer
returns-clause-answer c =
    let read = c.words_of_text in
    let put = c.bytes_of in
    let got = got-words _ _ _ _ (sym c.in_ok-count.was ∙ read.ensures.answer) read.ensures.left read.auto.words in
    (bytes-done c.args.text.now c.args.sheet.now c.if-text-gt-TEXT_BYTES.false c.if-sheet-lt-SHEETS_BYTES.false
    _ put.result read.new.words _ got read.auto.words put.ensures.counted put.ensures.written).0

pub returns-clause-left : goal.returns-clause-left
returns-clause-left c =
    let read = c.words_of_text in
    let put = c.bytes_of in
    let got = got-words _ _ _ _ (sym c.in_ok-count.was ∙ read.ensures.answer) read.ensures.left read.auto.words in
    (bytes-done c.args.text.now c.args.sheet.now c.if-text-gt-TEXT_BYTES.false c.if-sheet-lt-SHEETS_BYTES.false
    _ put.result read.new.words _ got read.auto.words put.ensures.counted put.ensures.written).1
