-- What is printed after the answer: rows that an answer left.
use Rattle.std.specs.Prelude.{ℕ, List, Result}
use Rattle.input.specs.declared.refused.Refused.{Refused}
use Rattle.label.specs.Program.{Answered}
use Rattle.label.specs.declared.answer.Answer.{Answer}

-- an answer to some bytes, with the rows that it leaves
pub record AnsweredRows (after : List ℕ) (answer : Result Answer Refused) : Type 0 where
  pub bytes : List ℕ
  pub before : List ℕ
  pub answered : Answered bytes before after answer
