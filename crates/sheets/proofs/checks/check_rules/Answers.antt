-- `check_rules` meets its contract, by the parts of the table: the records, the automata, the lines.
use Rattle.sheets.specs.Rules.{lent, record_questions, automata_questions, rule_questions}
use Rattle.sheets.specs.declared.refusal.Refusal.TheVariants.{Rules}
use Rattle.sheets.proofs.Questions.{all_yes}
use Rattle.sheets.proofs.SheetTable.{records-numbered}
use Rattle.sheets.proofs.CheckAnswers.{asks, handed_on, table_no, rule_numbered, no_number}
use Rattle.sheets.proofs.checks.check_rules.Goals as goal

pub returns-in_err-check_records : goal.returns-in_err-check_records
unfolding rule_questions
returns-in_err-check_records c =
    handed_on (Rules c.in_err-check_records.field-0.0) c.from_residual.ensures.1
    (table_no (record_questions lent c.args.r.now) _ (rule_numbered c.in_err-check_records.field-0.0) c.in_err-check_records.ensures)

pub returns-then-not-q12 : goal.returns-then-not-q12
unfolding rule_questions automata_questions
returns-then-not-q12 c = search (asks, records-numbered, c.in_ok-check_records.ensures)

-- question 9 bounds the variables
pub q13-requires : goal.q13-requires
unfolding record_questions
q13-requires c = (all_yes (record_questions lent c.args.r.now) (no_number _ c.in_ok-check_records.ensures)).1.1.0

pub returns-then-not-q13 : goal.returns-then-not-q13
unfolding rule_questions automata_questions
returns-then-not-q13 c = search (asks, records-numbered, c.in_ok-check_records.ensures)

pub returns-then-not-unmixed : goal.returns-then-not-unmixed
unfolding rule_questions automata_questions
returns-then-not-unmixed c = search (asks, records-numbered, c.in_ok-check_records.ensures) depth 8

pub returns-in_err-check_lines : goal.returns-in_err-check_lines
unfolding rule_questions automata_questions
returns-in_err-check_lines c =
    handed_on (Rules c.in_err-check_lines.field-0.0) c.from_residual-in_err-check_lines.ensures.1
    (search (asks, records-numbered, c.in_ok-check_records.ensures, c.in_err-check_lines.ensures) depth 8)

pub returns : goal.returns
unfolding rule_questions automata_questions
returns c = search (asks, records-numbered, c.in_ok-check_records.ensures, c.in_ok-check_lines.ensures) depth 8
