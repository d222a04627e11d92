-- What comparison asks, answers and leaves.
use Rattle.std.specs.Prelude.{◌≡◌, ℕ, ◌≤◌, List, ◌++◌, length, Result, Ok, Err}
use Rattle.truth.specs.Passed.{number_of, refusal_of}
use Rattle.truth.specs.Passed.{Refused as Refusal}
use Rattle.truth.specs.Passed.{Question, first_no, machine_questions}
use Rattle.comparison.specs.Comparison as Comparison
use Rattle.comparison.specs.declared.compare.Answer.{Answer}
use Rattle.comparison.specs.declared.compare.Answer.TheVariants.{Equal, Unequal}

-- questions 1 to 6 of the first sheet, then of the second, then 20 to 22
unfoldable pub comparison_questions : List ℕ → List ℕ → ℕ → List Question
unfolding machine_questions Comparison.compare_questions
comparison_questions M₁ M₂ space = machine_questions 1 M₁ ++ (machine_questions 2 M₂ ++ Comparison.compare_questions M₁ M₂ space)

-- the values of each case: refused, by a question that there is, or equal, the whole space is as before; unequal, a rule that tells the two
-- apart stands in it
unfoldable pub Leaves : List ℕ → List ℕ → List ℕ → List ℕ → Result Answer Refusal → Type 0
unfolding Comparison.Equal
Leaves M₁ M₂ before after (Err refusal) = (1 ≤ number_of refusal) × (after ≡ before)
Leaves M₁ M₂ before after (Ok Equal) = Comparison.Equal M₁ M₂ × (after ≡ before)
Leaves M₁ M₂ before after (Ok Unequal) = (R : List ℕ) × Comparison.Written M₁ M₂ R before after

-- comparison's answer for two machine sheets and a space
pub record CompareAnswer (M₁ M₂ before after : List ℕ) (answer : Result Answer Refusal) : Type 0 where
  pub refusal : refusal_of answer ≡ first_no (comparison_questions M₁ M₂ (length before))
  pub leaves : Leaves M₁ M₂ before after answer
