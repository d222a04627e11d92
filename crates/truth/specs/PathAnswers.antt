-- What the path call answers and leaves.
use Rattle.std.specs.Prelude.{◌≡◌, ℕ, min, ◌≤◌, List, length, Option, Some, None, Result, Ok, Err}
use Rattle.sheets.specs.Questions.{first_no}
use Rattle.sheets.specs.Refusals.{number_of, refusal_of}
use Rattle.sheets.specs.declared.refusal.Refusal.{Refusal}
use Rattle.sheets.specs.Rules.{lent}
use Rattle.truth.specs.Truth.{TrueAt}
use Rattle.truth.specs.Path.{asked, path_questions, ShownPath}
use Rattle.truth.specs.declared.path.Shown.{Shown}

-- refused, no path, or a path
abbrev pub Answer : Type 0
Answer = Result (Option Shown) Refusal

-- how many places of a list an answer fills
abbrev pub length_of : Answer → ℕ
length_of (Err refusal) = 0
length_of (Ok None) = 0
length_of (Ok (Some shown)) = shown.length

-- the values of each case: a path is shown exactly where the line is true; otherwise every lent word is as before
unfoldable pub Leaves : List ℕ → List ℕ → ℕ → ℕ → List ℕ → List ℕ → List ℕ → List ℕ → Answer → Type 0
Leaves M R j s nodes_before states_before nodes_after states_after (Err refusal) =
    (1 ≤ number_of refusal) × (nodes_after ≡ nodes_before) × (states_after ≡ states_before)
Leaves M R j s nodes_before states_before nodes_after states_after (Ok None) =
    (TrueAt lent M R (asked R j) s → ⊥) × (nodes_after ≡ nodes_before) × (states_after ≡ states_before)
Leaves M R j s nodes_before states_before nodes_after states_after (Ok (Some shown)) =
    TrueAt lent M R (asked R j) s × ShownPath M R j s nodes_before states_before nodes_after states_after shown.length shown.back

-- the path call's answer: the refusal by the first "no" of its table, or no path, or a path
pub record PathAnswer (M R : List ℕ) (j s : ℕ) (nodes_before states_before nodes_after states_after : List ℕ) (answer : Answer) : Type 0 where
  pub refusal : refusal_of answer ≡ first_no (path_questions M R j s (min (length nodes_before) (length states_before)))
  pub leaves : Leaves M R j s nodes_before states_before nodes_after states_after answer
