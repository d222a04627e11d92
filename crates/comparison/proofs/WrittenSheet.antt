-- What is left to a program that writes the sheet of a list of lines: the rest of `Written` holds of the list.
use mathlib.Core.Path.{◌≡◌, refl}
use Prim.Native.Nat.{ℕ, ◌+◌, ◌≤◌}
use native.Mathlib.Omega.{arith}
use mathlib.Core.List.{List, ◌++◌}
use lib.ListN.{length, take, drop}
use lib.Dec.{T}
use Rattle.truth.specs.Passed.{nodes, signals, lines, lent, over_signals, machine_refusal, nodes_most, next_head, lines_written, word}
use Rattle.truth.proofs.Passed.{signals-sized}
use Rattle.truth.proofs.labelling.LabelTable.{label-accepts}
use Rattle.comparison.specs.Comparison.{Written, ToldApart, rule_head}
use Rattle.comparison.specs.inner.Lines.{Entry, sheet, Downward}
use Rattle.comparison.proofs.Lines.{lines_are}
use Rattle.comparison.proofs.LinesAccepted.{accepted-lent, over-signals}

head-is : (ls : List Entry) → take next_head (sheet ls) ≡ rule_head (lines (sheet ls))
unfolding word sheet
head-is ls = refl

pub written : (M₁ M₂ : List ℕ) → machine_refusal M₁ ≡ 0 → machine_refusal M₂ ≡ 0 → signals M₁ ≡ signals M₂ → nodes M₁ + nodes M₂ ≤ nodes_most → (ls : List Entry) → Downward (signals M₁) ls
    → 1 ≤ length ls → length ls ≤ lines_written (signals M₁) (nodes M₁ + nodes M₂) → ToldApart M₁ M₂ (sheet ls)
    → (before after : List ℕ) → after ≡ sheet ls ++ drop (length (sheet ls)) before → Written M₁ M₂ (sheet ls) before after
written M₁ M₂ ok₁ ok₂ same few ls down some short apart before after stands =
    let s = signals-sized M₁ ok₁ in
    let accepted = accepted-lent (signals M₁) ls down some (omega arith) in
    let over = over-signals (signals M₁) ls down in
    let over' : T (over_signals lent (signals M₂) (sheet ls)) = rw (← same) over in
    record {
      stands = stands;
      head = head-is ls;
      short = omega (arith, lines_are ls);
      accepted = accepted;
      over₁ = over;
      over₂ = over';
      labels₁ = λ space. label-accepts M₁ (sheet ls) space ok₁ accepted over;
      labels₂ = λ space. label-accepts M₂ (sheet ls) space ok₂ accepted over';
      apart = apart;
    }
