-- The answer of a sheet check.
use Rattle.std.specs.Prelude.{◌≡◌, List, Result, Ok}
use Rattle.sheets.specs.Refusals.{refusal_of}
use Rattle.sheets.specs.Questions.{Question, first_no}
use Rattle.sheets.specs.declared.refusal.Refusal.{Refusal}

-- r is the answer to a table of questions: the refusal by the first "no", and "accepted" where every answer is yes
pub record Answered (questions : List Question) (r : Result (Unit {0}) Refusal) : Type 0 where
  pub refusal : refusal_of r ≡ first_no questions
  pub accepted : (first_no questions).number ≡ 0 → r ≡ Ok tt
