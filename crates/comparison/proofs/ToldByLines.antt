-- Two machines are not equal where a written rule is kept by the first and not by the second, shown by the sets where its last line is true.
use mathlib.Core.Logic.{◌⊎◌, inl, inr}
use Prim.Native.Nat.{ℕ, ◌≤◌}
use mathlib.Core.List.{List}
use mathlib.Core.Bool.{Bool, not, ◌||◌}
use lib.ListN.{length}
use lib.Dec.{T, T_not}
use Rattle.truth.specs.Passed.{kripke, nodes, signals, each, lifted, line_words}
use Rattle.truth.specs.Truth.{Keeps}
use Rattle.truth.proofs.Passed.{or_cases, each_at, start-node}
use Rattle.comparison.specs.Comparison.{Equal, Agreed}
use Rattle.comparison.specs.inner.Lines.{Entry, sheet, Downward}
use Rattle.comparison.specs.inner.Blocks.{Exact}
use Rattle.comparison.proofs.Lines.{lines_are}
use Rattle.comparison.proofs.LinesAccepted.{rule}

module _ (ls : List Entry) (M : List ℕ) (p : ℕ → Bool) (exact : Exact M ls (length ls) p) where
  kept : T (each (nodes M) (λ s. not ((kripke M).start s) || p s)) → Keeps (lifted line_words) M (sheet ls)
  unfolding Keeps Exact
  kept all s t =
      let n = start-node M s t in
      let true-here = by-test (or_cases (not ((kripke M).start s)) (p s) (each_at (nodes M) (λ s. not ((kripke M).start s) || p s) all s n.0 n.1)) in
      rw (lines_are ls) ((exact s n.0 n.1).1 true-here)
    where
      by-test : T (not ((kripke M).start s)) ⊎ T (p s) → T (p s)
      by-test (inl x) = absurd (T_not ((kripke M).start s) x t)
      by-test (inr x) = x

  broken : (s : ℕ) → T ((kripke M).start s) → T (not (p s)) → Keeps (lifted line_words) M (sheet ls) → ⊥
  unfolding Keeps Exact
  broken s t false-here keeps =
      let n = start-node M s t in
      T_not (p s) false-here ((exact s n.0 n.1).0 (rw (lines_are ls) at (keeps s t)))

pub told : (M₁ M₂ : List ℕ) (ls : List Entry) → Downward (signals M₁) ls → 1 ≤ length ls → (p₁ p₂ : ℕ → Bool) → Exact M₁ ls (length ls) p₁ → Exact M₂ ls (length ls) p₂
    → T (each (nodes M₁) (λ s. not ((kripke M₁).start s) || p₁ s)) → (t : ℕ) → T ((kripke M₂).start t) → T (not (p₂ t)) → Equal M₁ M₂ → ⊥
unfolding Equal Agreed
told M₁ M₂ ls down some p₁ p₂ e₁ e₂ all t start false-there same = clash (same 6 (sheet ls) (rule (signals M₁) ls down some))
  where
    clash : Agreed M₁ M₂ 6 (sheet ls) → ⊥
    clash (inl x) = broken ls M₂ p₂ e₂ t start false-there x.1
    clash (inr x) = x.0 (kept ls M₁ p₁ e₁ all)
