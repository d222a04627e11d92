-- `check_labelling` meets its contract, by the parts of the table: the sheets, the space.
use Rattle.std.proofs.Common.{◌*◌, arith, sym}
use Rattle.std.proofs.lemmas.Bool.{le-leb, lt-leb}
use Rattle.sheets.specs.Rules.{lines}
use Rattle.sheets.specs.Sheets.{sheet_questions}
use Rattle.sheets.proofs.SheetTable.{sheets-numbered}
use Rattle.truth.specs.Sizes.{row_words}
use Rattle.truth.specs.Labelling.{label_questions}
use Rattle.sheets.proofs.CheckAnswers.{asks, handed_on, table_no, numbered}
use Rattle.truth.proofs.labelling.check_labelling.Goals as goal

pub returns-in_err-check_sheets : goal.returns-in_err-check_sheets
unfolding label_questions
returns-in_err-check_sheets c =
    handed_on c.in_err-check_sheets.field-0.0 c.from_residual.ensures.1
    (table_no (sheet_questions c.args.m.now c.args.r.now) _ (numbered c.in_err-check_sheets.field-0.0) c.in_err-check_sheets.ensures.refusal)

pub returns-then-space-lines : goal.returns-then-space-lines
unfolding label_questions
returns-then-space-lines c =
    let little = lt-leb (row_words * lines c.args.r.now) c.args.space (omega (arith, c.lines.ensures)) in
    search (asks, sheets-numbered, c.in_ok-check_sheets.ensures.refusal, sym little)

pub returns : goal.returns
unfolding label_questions
returns c =
    let enough = le-leb (row_words * lines c.args.r.now) c.args.space (omega (arith, c.lines.ensures)) in
    search (asks, sheets-numbered, c.in_ok-check_sheets.ensures.refusal, sym enough)
