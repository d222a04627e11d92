-- `check` meets its contract: the plain sheet's questions are those of its form.
use Rattle.sheets.specs.Machine.{machine_questions}
use Rattle.sheets.proofs.machine.check.Goals as goal

pub returns : goal.returns
unfolding machine_questions
returns c = c.check_form.ensures
