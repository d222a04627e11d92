-- `check_sheets` meets its contract, by the parts of the table: the machine, the rule, the signals.
use Rattle.sheets.specs.Rules.{lent, rule_questions}
use Rattle.sheets.specs.Machine.{machine_questions}
use Rattle.sheets.specs.Sheets.{sheet_questions}
use Rattle.sheets.proofs.SheetTable.{machine-numbered, rules-numbered}
use Rattle.sheets.proofs.CheckAnswers.{asks, handed_on, table_yes, table_no, numbered}
use Rattle.sheets.proofs.checks.check_sheets.Goals as goal

pub returns-in_err-check_machine : goal.returns-in_err-check_machine
unfolding sheet_questions
returns-in_err-check_machine c =
    handed_on c.in_err-check_machine.field-0.0 c.from_residual.ensures.1
    (table_no (machine_questions 1 c.args.m.now) _ (numbered c.in_err-check_machine.field-0.0) c.in_err-check_machine.ensures.refusal)

pub returns-in_err-check_rules : goal.returns-in_err-check_rules
unfolding sheet_questions
returns-in_err-check_rules c =
    handed_on c.in_err-check_rules.field-0.0 c.from_residual-in_err-check_rules.ensures.1
    (table_yes (machine_questions 1 c.args.m.now) _ (machine-numbered 1 c.args.m.now) c.in_ok-check_machine.ensures.refusal
    (table_no (rule_questions lent c.args.r.now) _ (numbered c.in_err-check_rules.field-0.0) c.in_err-check_rules.ensures.refusal))

pub returns-then-not-over_signals : goal.returns-then-not-over_signals
unfolding sheet_questions
returns-then-not-over_signals c =
    let over = rw c.signals.ensures at c.over_signals.ensures in
    search (asks, machine-numbered, rules-numbered, c.in_ok-check_machine.ensures.refusal, c.in_ok-check_rules.ensures.refusal)

pub returns : goal.returns
unfolding sheet_questions
returns c =
    let over = rw c.signals.ensures at c.over_signals.ensures in
    search (asks, machine-numbered, rules-numbered, c.in_ok-check_machine.ensures.refusal, c.in_ok-check_rules.ensures.refusal)
