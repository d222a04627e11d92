-- The rows of an answer fit the lent space: two words a line.
use Rattle.std.specs.Prelude.{Result, Ok}
use mathlib.Core.Path.{◌≡◌, ap}
use Prim.Native.Nat.{ℕ, ◌*◌, ◌≤◌}
use native.Mathlib.Omega.{arith}
use mathlib.Core.List.{List}
use lib.ListN.{length}
use Rattle.sheets.specs.Questions.{none}
use Rattle.sheets.specs.Rules.{lines}
use Rattle.truth.specs.Sizes.{row_words}
use Rattle.truth.specs.LabelAnswers.{Leaves, LabelAnswer}
use Rattle.truth.specs.declared.labelling.Labelled.{Labelled}
use Rattle.truth.proofs.labelling.LabelTable.{space-enough}
use Rattle.input.specs.declared.refused.Refused.{Refused}
use Rattle.input.proofs.Cuts.{by-reply}
use Rattle.label.specs.Program.{Answered}
use Rattle.label.specs.declared.answer.Answer.{Answer}

-- question 17 said yes, and labelling keeps the length of the space
room : (M R before after : List ℕ) (found : Labelled) → LabelAnswer M R before after (Ok found) → row_words * lines R ≤ length after
unfolding none Leaves
room M R before after found h =
    let enough = space-enough M R (length before) (ap (λ r. r.number) h.refusal) in
    let size = h.leaves.rows.size in
    omega arith

pub rows_fit : (bytes before after : List ℕ) (answer : Result Answer Refused) (a : Answer) (found : Labelled) → Answered bytes before after answer
    → answer ≡ Ok a → a.labelled ≡ Ok found → row_words * a.lines ≤ length after
rows_fit bytes before after answer a found h e is =
    by-reply h (λ other r. let z : ◌≡◌ {A = ℕ} 0 1 = cc in absurd (omega arith))
    (λ ok s.
    let said = rw e at s in
    rw said.lines (room _ _ before after found (rw is at said.labelled)))
