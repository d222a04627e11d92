-- What the path call makes before it writes to a lent list: two lists of numbers.
use Rattle.std.specs.Prelude.{◌≡◌, ℕ, ◌≤◌, List, Some, None, Ok, Err}
use Rattle.sheets.specs.Refusals.{number_of, refusal_of}
use Rattle.sheets.specs.Questions.{first_no}
use Rattle.sheets.specs.Rules.{lent}
use Rattle.truth.specs.Truth.{TrueAt}
use Rattle.truth.specs.Path.{asked, path_questions, ShowsPath}
use Rattle.truth.specs.PathAnswers.{Answer}
use Rattle.truth.specs.inner.Trails.{placed}

-- the path that was made for line j and node s, as two lists of numbers: none where the line is false
unfoldable pub MadePath : List ℕ → List ℕ → ℕ → ℕ → ℕ → List ℕ → List ℕ → Answer → Type 0
MadePath M R j s room nodes states (Err refusal) = 1 ≤ number_of refusal
MadePath M R j s room nodes states (Ok None) = TrueAt lent M R (asked R j) s → ⊥
MadePath M R j s room nodes states (Ok (Some shown)) =
    TrueAt lent M R (asked R j) s × ShowsPath M R j s (placed nodes) (placed states) shown.length shown.back × (shown.length ≤ room)

pub record MadeFor (M R : List ℕ) (j s room : ℕ) (nodes states : List ℕ) (answer : Answer) : Type 0 where
  pub refusal : refusal_of answer ≡ first_no (path_questions M R j s room)
  pub made : MadePath M R j s room nodes states answer
