-- `check_records` meets its contract: each question that was passed says yes, and the one that returned says no.
use Rattle.sheets.specs.Rules.{record_questions}
use Rattle.sheets.proofs.CheckAnswers.{asks}
use Rattle.sheets.proofs.rules.check_records.Goals as goal

pub returns-then-not-q7 : goal.returns-then-not-q7
unfolding record_questions
returns-then-not-q7 c = search asks depth 8

pub returns-then-not-q8 : goal.returns-then-not-q8
unfolding record_questions
returns-then-not-q8 c = search asks depth 8

pub returns-then-not-q9 : goal.returns-then-not-q9
unfolding record_questions
returns-then-not-q9 c = search asks depth 8

pub returns-then-not-q10 : goal.returns-then-not-q10
unfolding record_questions
returns-then-not-q10 c = search asks depth 8

pub returns-then-not-q11 : goal.returns-then-not-q11
unfolding record_questions
returns-then-not-q11 c = search asks depth 8

pub returns : goal.returns
unfolding record_questions
returns c = search asks depth 8
