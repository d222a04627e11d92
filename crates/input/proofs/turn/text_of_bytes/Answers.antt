-- `text_of_bytes` meets its contract: the local words are all those of the bytes.
use native.Mathlib.Omega.{arith}
use Rattle.input.proofs.WordLists.{words-all}
use Rattle.input.proofs.Turning.{sheet-long, sheet-odd, text-done}
use Rattle.input.proofs.turn.text_of_bytes.Goals as goal

pub returns-then-sheet-gt-SHEETS_BYTES-clause-answer : goal.returns-then-sheet-gt-SHEETS_BYTES-clause-answer
returns-then-sheet-gt-SHEETS_BYTES-clause-answer c = (sheet-long c.args.sheet.now c.args.text.now c.if-sheet-gt-SHEETS_BYTES.true).0

pub returns-then-sheet-gt-SHEETS_BYTES-clause-left : goal.returns-then-sheet-gt-SHEETS_BYTES-clause-left
returns-then-sheet-gt-SHEETS_BYTES-clause-left c = (sheet-long c.args.sheet.now c.args.text.now c.if-sheet-gt-SHEETS_BYTES.true).1

pub returns-then-odd-clause-answer : goal.returns-then-odd-clause-answer
returns-then-odd-clause-answer c = (sheet-odd c.args.sheet.now c.args.text.now c.if-sheet-gt-SHEETS_BYTES.false c.if-odd.true).0

pub returns-then-odd-clause-left : goal.returns-then-odd-clause-left
returns-then-odd-clause-left c = (sheet-odd c.args.sheet.now c.args.text.now c.if-sheet-gt-SHEETS_BYTES.false c.if-odd.true).1

pub returns-clause-answer : goal.returns-clause-answer
returns-clause-answer c =
    let got = c.words_of-count in
    let put = c.text_of_words in
    let all = words-all c.args.sheet.now _ got.new.words got.result (omega arith) got.ensures.counted got.ensures.written in
    rw c.ok_or.ensures.value
    (text-done c.args.sheet.now c.args.text.now c.if-sheet-gt-SHEETS_BYTES.false c.if-odd.false _ _ _ all put.ensures.answer put.ensures.left).0

pub returns-clause-left : goal.returns-clause-left
returns-clause-left c =
    let got = c.words_of-count in
    let put = c.text_of_words in
    let all = words-all c.args.sheet.now _ got.new.words got.result (omega arith) got.ensures.counted got.ensures.written in
    (text-done c.args.sheet.now c.args.text.now c.if-sheet-gt-SHEETS_BYTES.false c.if-odd.false _ _ _ all put.ensures.answer put.ensures.left).1
