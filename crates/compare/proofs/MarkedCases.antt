-- The marked cases (a) to (k) of document 01, as one table and one theorem. Of (a) to (d) it says what holds of the machines, and what
-- comparison answers, in any space that is large enough; of (a) also what the program prints; of (e) and (f) where the lines are true, that
-- the sheets are accepted, and what labelling answers: its rows, kept, count and percent.
use Rattle.std.specs.Prelude.{Result, Ok}
use mathlib.Core.Path.{◌≡◌, refl}
use Prim.Native.Nat.{ℕ, ◌+◌, ◌≤◌}
use native.Mathlib.Omega.{arith}
use mathlib.Core.List.{List, ◌++◌}
use mathlib.Core.Bool.{true, false}
use lib.ListN.{length}
use lib.Dec.{leb, eqb}
use Rattle.truth.specs.Passed.{M1, M2, M3, M5, M6, MixedSheet, PartialSheet, SelfLinked, ExtraSignal, nodes, signals, word, machine_refusal, lent, rule_refusal}
use Rattle.truth.specs.Truth.{TrueAt}
use Rattle.truth.specs.Labelling.{percent}
use Rattle.truth.specs.Worked.{EvenSheet, OneState, Labels}
use Rattle.truth.proofs.Passed.{machine-cases, rule-cases}
use Rattle.truth.proofs.MarkedCases.{case-e-true, case-e-false, case-e, case-f-true, case-f-false, case-f-kept, case-f-broken, case-k}
use Rattle.sheets.specs.declared.refusal.Refusal.{Refusal}
use Rattle.comparison.specs.Comparison.{Equal}
use Rattle.comparison.specs.CompareAnswers.{CompareAnswer}
use Rattle.comparison.specs.declared.compare.Answer.{Answer}
use Rattle.comparison.specs.declared.compare.Answer.TheVariants.{Equal as says_equal, Unequal as says_unequal}
use Rattle.comparison.proofs.CompareTable.{refuses-nothing}
use Rattle.comparison.proofs.Decides.{Decides, decides}
use Rattle.comparison.proofs.MarkedMachines.{case-a, case-b, case-c, case-d}
use Rattle.text.specs.Lines.{shown}
use Rattle.text.specs.declared.line.Line.{Line}
use Rattle.input.specs.Bytes.{bytes_of}
use Rattle.input.specs.Limits.{nodes_most, rule_space}
use Rattle.compare.specs.Program.{line_bytes, Printed}
use Rattle.compare.proofs.PrintedLines.{case-a as printed-a}

abbrev Answers : (M₁ M₂ : List ℕ) → Answer → Type 0
Answers M₁ M₂ x =
    (before after : List ℕ) (answer : Result Answer Refusal) → rule_space (signals M₁) (nodes M₁ + nodes M₂) ≤ length before → CompareAnswer M₁ M₂ before after answer → answer ≡ Ok x

module _ (M₁ M₂ : List ℕ) (ok₁ : machine_refusal M₁ ≡ 0) (ok₂ : machine_refusal M₂ ≡ 0) (alike : signals M₁ ≡ signals M₂) (few : nodes M₁ + nodes M₂ ≤ nodes_most) where
  decided : (before after : List ℕ) (answer : Result Answer Refusal) → rule_space (signals M₁) (nodes M₁ + nodes M₂) ≤ length before → CompareAnswer M₁ M₂ before after answer
      → Decides M₁ M₂ answer
  decided before after answer room =
      decides M₁ M₂ before after
      (refuses-nothing M₁ M₂ (length before) (record { first = ok₁; second = ok₂; same = alike; few = few; enough = room })) answer

  says-equal : Equal M₁ M₂ → Answers M₁ M₂ says_equal
  says-equal same before after answer room c = (decided before after answer room c).equal.1 same

  says-unequal : (Equal M₁ M₂ → ⊥) → Answers M₁ M₂ says_unequal
  says-unequal other before after answer room c = (decided before after answer room c).unequal.1 other

-- ---- the table

pub record Marked : Type 0 where
  pub a : Equal M1 M2 × Answers M1 M2 says_equal × ((line : Line) → Printed (bytes_of (M1 ++ M2)) line → shown line ≡ line_bytes (Ok says_equal))
  pub b : (Equal M1 M3 → ⊥) × Answers M1 M3 says_unequal
  pub c : (Equal M5 M6 → ⊥) × Answers M5 M6 says_unequal
  pub d : Equal M1 M1 × Answers M1 M1 says_equal
  pub e : TrueAt lent M3 EvenSheet 2 1 × (TrueAt lent M3 EvenSheet 2 2 → ⊥) × Labels M3 EvenSheet (λ j s. eqb s 1) true 1 50
  pub f-true : (M : List ℕ) → machine_refusal M ≡ 0
      → ((s : ℕ) → 1 ≤ s → s ≤ nodes M → TrueAt lent M (OneState 1) 1 s) × Labels M (OneState 1) (λ j s. leb s (nodes M)) true (nodes M) 100
  pub f-false : (M : List ℕ) → machine_refusal M ≡ 0
      → ((s : ℕ) → TrueAt lent M (OneState 0) 1 s → ⊥) × Labels M (OneState 0) (λ j s. false) false 0 0
  pub g : rule_refusal lent MixedSheet ≡ 14
  pub h : rule_refusal lent PartialSheet ≡ 13
  pub i : machine_refusal SelfLinked ≡ 5
  pub j : machine_refusal ExtraSignal ≡ 3
  pub k : percent 1 8 ≡ 12

-- end result
pub marked : Marked
unfolding word
marked =
    let m = machine-cases in
    record {
      a = (case-a, says-equal M1 M2 m.m1 m.m2 refl (omega arith) case-a, printed-a);
      b = (case-b, says-unequal M1 M3 m.m1 m.m3 refl (omega arith) case-b);
      c = (case-c, says-unequal M5 M6 m.m5 m.m6 refl (omega arith) case-c);
      d = (case-d, says-equal M1 M1 m.m1 m.m1 refl (omega arith) case-d);
      e = (case-e-true, case-e-false, case-e);
      f-true = λ M ok. (case-f-true M ok, case-f-kept M ok);
      f-false = λ M ok. (case-f-false M ok, case-f-broken M ok);
      g = rule-cases.case-g;
      h = rule-cases.case-h;
      i = m.case-i;
      j = m.case-j;
      k = case-k;
    }
