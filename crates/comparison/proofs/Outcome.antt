-- What a refinement comes to: the two machines keep the same rules, or "not" of the line of a block tells them apart.
use mathlib.Core.Path.{◌≡◌, subst}
use mathlib.Core.Logic.{◌⊎◌, inl, inr, ◌↔◌}
use Prim.Native.Nat.{ℕ, ◌≤◌, ◌<◌}
use mathlib.Core.List.{List}
use lib.Dec.{T}
use Rattle.truth.specs.Passed.{kripke, signals, lent, lifted, machine_refusal, rule_refusal, over_signals}
use Rattle.truth.specs.Truth.{Keeps}
use Rattle.truth.specs.inner.Rows.{leads_into}
use Rattle.truth.proofs.Passed.{lifts, over-same}
use Rattle.truth.proofs.Decided.{keeps-decided}
use Rattle.truth.proofs.LentTruth.{same-keeps}
use Rattle.comparison.specs.Comparison.{Rule, Agreed, Equal, ToldApart}
use Rattle.comparison.specs.inner.Lines.{Entry, sheet}
use Rattle.comparison.specs.inner.Blocks.{Members, HasStart, OneStart, Unsplit}
use Rattle.comparison.specs.inner.Refinement.{Refinement, LinesIn}
use Rattle.comparison.proofs.Partition.{keeps_same}
use Rattle.comparison.proofs.TellingApart.{negated, told-apart}

module _ (a : ℕ) (M₁ M₂ : List ℕ) (ok₁ : machine_refusal M₁ ≡ 0) (ok₂ : machine_refusal M₂ ≡ 0) (ls : List Entry) (count : ℕ) (line : ℕ → ℕ) (m₁ m₂ : Members)
    (r : Refinement a M₁ M₂ ls count line m₁ m₂) where
  -- no signal and no "some next of a block" splits a block, and each block has a start node of both machines or of neither
  pub same-rules : ((c i : ℕ) → c < count → 1 ≤ i → i ≤ a → Unsplit M₁ M₂ m₁ m₂ c ((kripke M₁).signal i) ((kripke M₂).signal i))
      → ((c d : ℕ) → c < count → d < count → Unsplit M₁ M₂ m₁ m₂ c (leads_into M₁ (m₁ d)) (leads_into M₂ (m₂ d)))
      → ((c : ℕ) → c < count → HasStart M₁ m₁ c ↔ HasStart M₂ m₂ c)
      → (L : ℕ) (R : List ℕ) → Rule a L R → Keeps (lifted L) M₁ R ↔ Keeps (lifted L) M₂ R
  same-rules signals nexts starts =
      keeps_same a count M₁ M₂ m₁ m₂ ok₁ ok₂
      (record { covers₁ = r.first.covers; covers₂ = r.second.covers; signals = signals; nexts = nexts }) starts

  -- a block has a start node of one machine only
  pub unequal : (c : ℕ) → c < count → OneStart M₁ M₂ m₁ m₂ c → ToldApart M₁ M₂ (sheet (negated ls (line c)))
  unfolding LinesIn
  unequal c h =
      told-apart a ls r.down (line c) (r.lines c h).0 (r.lines c h).1 M₁ M₂ ok₁ ok₂ m₁ m₂ c (r.first.exact c h) (r.second.exact c h)

-- equal, as `Comparison.antt` says it
pub equal : (M₁ M₂ : List ℕ) → machine_refusal M₁ ≡ 0 → machine_refusal M₂ ≡ 0
    → ((L : ℕ) (R : List ℕ) → Rule (signals M₁) L R → Keeps (lifted L) M₁ R ↔ Keeps (lifted L) M₂ R) → Equal M₁ M₂
unfolding Equal
equal M₁ M₂ ok₁ ok₂ same L R rule = agreed (keeps-decided (lifted L) M₁ R ok₁ rule.accepted) (same L R rule)
  where
    agreed : {X Y : Type 0} → Dec X → X ↔ Y → (X × Y) ⊎ ((X → ⊥) × (Y → ⊥))
    agreed (yes x) e = inl (x, e.0 x)
    agreed (no f) e = inr (f, λ y. f (e.1 y))

-- machines that an accepted sheet tells apart are not equal
pub never_both : (M₁ M₂ R : List ℕ) → rule_refusal lent R ≡ 0 → T (over_signals lent (signals M₁) R) → ToldApart M₁ M₂ R → Equal M₁ M₂ → ⊥
unfolding Equal ToldApart
never_both M₁ M₂ R accepted over apart eq = clash apart (eq 6 R (record { accepted = lifts R accepted; over = subst T (over-same R (signals M₁)) over }))
  where
    clash : ToldApart M₁ M₂ R → Agreed M₁ M₂ 6 R → ⊥
    clash (inl x) (inl y) = x.1 ((same-keeps M₂ R).1 y.1)
    clash (inl x) (inr y) = y.0 ((same-keeps M₁ R).0 x.0)
    clash (inr x) (inl y) = x.0 ((same-keeps M₁ R).1 y.0)
    clash (inr x) (inr y) = y.1 ((same-keeps M₂ R).0 x.1)
