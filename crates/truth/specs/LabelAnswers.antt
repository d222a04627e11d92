-- What labelling answers and leaves.
use Rattle.std.specs.Prelude.{◌≡◌, ◌↔◌, ℕ, ◌≤◌, List, Bool, length, T, Result, Ok, Err}
use Rattle.sheets.specs.Questions.{first_no}
use Rattle.sheets.specs.Refusals.{number_of, refusal_of}
use Rattle.sheets.specs.declared.refusal.Refusal.{Refusal}
use Rattle.sheets.specs.Machine.{nodes}
use Rattle.sheets.specs.Rules.{lent, lines}
use Rattle.truth.specs.Truth.{Keeps}
use Rattle.truth.specs.Labelling.{label_questions, Rows, row_ones, percent}
use Rattle.truth.specs.declared.labelling.Labelled.{Labelled}

-- R is labelled on M: the rows, whether the rule is kept, the ones in the last row, and the whole percent of them among the nodes
pub record LabelledAs (M R before after : List ℕ) (kept : Bool) (count share : ℕ) : Type 0 where
  pub rows : Rows M R before after
  pub keeps : T kept ↔ Keeps lent M R
  pub counted : count ≡ row_ones after (lines R)
  pub shared : share ≡ percent count (nodes M)

-- the values of each case: refused, by a question that there is, every lent word is as before
unfoldable pub Leaves : List ℕ → List ℕ → List ℕ → List ℕ → Result Labelled Refusal → Type 0
Leaves M R before after (Err refusal) = (1 ≤ number_of refusal) × (after ≡ before)
Leaves M R before after (Ok found) = LabelledAs M R before after found.kept found.count found.percent

-- labelling's answer for a machine sheet M, a rule sheet R and a space: the refusal by the first "no" of its table, or what it finds
pub record LabelAnswer (M R before after : List ℕ) (answer : Result Labelled Refusal) : Type 0 where
  pub refusal : refusal_of answer ≡ first_no (label_questions M R (length before))
  pub leaves : Leaves M R before after answer
