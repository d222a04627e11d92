-- A rule with fewer lines, whose last line is true at the same nodes, is kept by the same machines.
use mathlib.Core.Path.{◌≡◌}
use mathlib.Core.Logic.Iff
use mathlib.Core.Logic.{inl, inr, ◌↔◌}
use Prim.Native.Nat.{ℕ}
use mathlib.Core.List.{List}
use Rattle.truth.specs.Passed.{lent, lifted, machine_refusal, line_words}
use Rattle.truth.specs.Truth.{Keeps}
use Rattle.truth.proofs.Passed.{start-node}
use Rattle.truth.proofs.LentTruth.{same-keeps}
use Rattle.comparison.specs.Comparison.{ToldApart}
use Rattle.comparison.specs.inner.Lines.{Entry, sheet}
use Rattle.comparison.specs.inner.Needed.{Same, Shortened}
use Rattle.comparison.proofs.Lines.{lines_are}

module _ (a : ℕ) (ls short : List Entry) (x : Shortened a ls short) where
  keeps-shorter : (M : List ℕ) → machine_refusal M ≡ 0 → Keeps (lifted line_words) M (sheet ls) ↔ Keeps (lifted line_words) M (sheet short)
  unfolding Keeps Same
  keeps-shorter M ok = (
    λ k s t. let n = start-node M s t in rw (lines_are short) ((x.same M ok s n.0 n.1).0 (rw (lines_are ls) at (k s t))),
    λ k s t. let n = start-node M s t in rw (lines_are ls) ((x.same M ok s n.0 n.1).1 (rw (lines_are short) at (k s t))),
  )

  keeps-lent : (M : List ℕ) → machine_refusal M ≡ 0 → Keeps lent M (sheet ls) ↔ Keeps lent M (sheet short)
  keeps-lent M ok = Iff.trans (same-keeps M (sheet ls)) (Iff.trans (keeps-shorter M ok) (Iff.symm (same-keeps M (sheet short))))

pub told-shorter : (M₁ M₂ : List ℕ) → machine_refusal M₁ ≡ 0 → machine_refusal M₂ ≡ 0 → (a : ℕ) (ls short : List Entry) → Shortened a ls short
    → ToldApart M₁ M₂ (sheet ls) → ToldApart M₁ M₂ (sheet short)
unfolding ToldApart
told-shorter M₁ M₂ ok₁ ok₂ a ls short x (inl y) =
    inl ((keeps-lent a ls short x M₁ ok₁).0 y.0, λ k. y.1 ((keeps-lent a ls short x M₂ ok₂).1 k))
told-shorter M₁ M₂ ok₁ ok₂ a ls short x (inr y) =
    inr (λ k. y.0 ((keeps-lent a ls short x M₁ ok₁).1 k), (keeps-lent a ls short x M₂ ok₂).0 y.1)
