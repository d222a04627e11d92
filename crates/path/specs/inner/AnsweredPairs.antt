-- What is printed after the answer: the list that an answer left.
use Rattle.std.specs.Prelude.{ℕ, List, Option, Result}
use Rattle.input.specs.declared.refused.Refused.{Refused}
use Rattle.truth.specs.declared.pairs.Pair.{Pair}
use Rattle.truth.specs.declared.path.Shown.{Shown}
use Rattle.path.specs.Program.{Answered}

-- an answer to some bytes, for some line and node, with the list that it leaves
pub record AnsweredPairs (after : List Pair) (answer : Result (Option Shown) Refused) : Type 0 where
  pub bytes : List ℕ
  pub line : ℕ
  pub node : ℕ
  pub before : List Pair
  pub answered : Answered bytes line node before after answer
