-- `check_path` meets its contract, by the parts of the table: the sheets, then the line and the room.
use Rattle.sheets.specs.Sheets.{sheet_questions}
use Rattle.sheets.proofs.SheetTable.{sheets-numbered}
use Rattle.truth.specs.Path.{path_questions}
use Rattle.sheets.proofs.CheckAnswers.{asks, handed_on, table_no, numbered}
use Rattle.truth.proofs.path.Call.check_path.Goals as goal

pub returns-in_err-check_sheets : goal.returns-in_err-check_sheets
unfolding path_questions
returns-in_err-check_sheets c =
    handed_on c.in_err-check_sheets.field-0.0 c.from_residual.ensures.1
    (table_no (sheet_questions c.args.self.now.machine.now c.args.self.now.rules.now) _ (numbered c.in_err-check_sheets.field-0.0) c.in_err-check_sheets.ensures.refusal)

pub returns-then-not-q18 : goal.returns-then-not-q18
unfolding path_questions
returns-then-not-q18 c = search (asks, sheets-numbered, c.in_ok-check_sheets.ensures.refusal)

pub returns-then-not-q19 : goal.returns-then-not-q19
unfolding path_questions
returns-then-not-q19 c = search (asks, sheets-numbered, c.in_ok-check_sheets.ensures.refusal)

pub returns : goal.returns
unfolding path_questions
returns c = search (asks, sheets-numbered, c.in_ok-check_sheets.ensures.refusal)
