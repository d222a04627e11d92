-- `check_form` meets its contract: each question that was passed says yes, and the one that returned says no.
use Rattle.sheets.specs.MachineForms.{machine_questions}
use Rattle.sheets.proofs.CheckAnswers.{asks}
use Rattle.sheets.proofs.machine.check_form.Goals as goal

pub returns-then-not-q1 : goal.returns-then-not-q1
unfolding machine_questions
returns-then-not-q1 c = λ sheet. search asks depth 8

pub returns-then-not-q2 : goal.returns-then-not-q2
unfolding machine_questions
returns-then-not-q2 c = λ sheet. search asks depth 8

pub returns-then-not-q3 : goal.returns-then-not-q3
unfolding machine_questions
returns-then-not-q3 c = λ sheet. search asks depth 8

pub returns-then-not-q4 : goal.returns-then-not-q4
unfolding machine_questions
returns-then-not-q4 c = λ sheet. search asks depth 8

pub returns-then-not-q5 : goal.returns-then-not-q5
unfolding machine_questions
returns-then-not-q5 c = λ sheet. search asks depth 8

pub returns-then-not-q6 : goal.returns-then-not-q6
unfolding machine_questions
returns-then-not-q6 c = λ sheet. search asks depth 8

pub returns : goal.returns
unfolding machine_questions
returns c = λ sheet. search asks depth 8
