-- `check_comparison` meets its contract, by the parts of the table: the first machine, the second, and the rest.
use Rattle.truth.proofs.Passed.{machine-numbered}
use Rattle.truth.proofs.Passed.{answered, handed_on, table_yes, table_no, numbered}
use Rattle.truth.specs.Passed.{machine_questions}
use Rattle.comparison.specs.CompareAnswers.{comparison_questions}
use Rattle.comparison.proofs.compare.check_comparison.Goals as goal

pub returns-in_err-check_machine : goal.returns-in_err-check_machine
unfolding comparison_questions
returns-in_err-check_machine c =
    handed_on c.in_err-check_machine.field-0.0 c.from_residual.ensures.1
    (table_no (machine_questions 1 c.args.m1.now) _ (numbered c.in_err-check_machine.field-0.0) c.in_err-check_machine.ensures.refusal)

pub returns-in_err-check_second : goal.returns-in_err-check_second
unfolding comparison_questions
returns-in_err-check_second c =
    handed_on c.in_err-check_second.field-0.0 c.from_residual-in_err-check_second.ensures.1
    (table_yes (machine_questions 1 c.args.m1.now) _ (machine-numbered 1 c.args.m1.now) c.in_ok-check_machine.ensures.refusal
    (table_no (machine_questions 2 c.args.m2.now) _ (numbered c.in_err-check_second.field-0.0) c.in_err-check_second.ensures.refusal))

pub returns : goal.returns
unfolding comparison_questions
returns c =
    answered
    (table_yes (machine_questions 1 c.args.m1.now) _ (machine-numbered 1 c.args.m1.now) c.in_ok-check_machine.ensures.refusal
    (table_yes (machine_questions 2 c.args.m2.now) _ (machine-numbered 2 c.args.m2.now) c.in_ok-check_second.ensures.refusal
    c.check_together.ensures.refusal))
