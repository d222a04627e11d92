-- Blocks of nodes of two machines: disjoint blocks that are not empty are at most as many as the nodes.
use mathlib.Core.Path.{◌≡◌, refl}
use mathlib.Core.Logic.{◌⊎◌, inl, inr, by_cases}
use Prim.Native.Nat.{ℕ, ◌+◌, ◌-◌, ◌≤◌, ◌<◌}
use native.Mathlib.Omega.{arith}
use native.Mathlib.Decide.{dec_le, dec_lt}
use mathlib.Core.List.{List}
use Rattle.truth.specs.Passed.{nodes}
use Rattle.comparison.specs.inner.Blocks.{Members, In, Disjoint, Inhabited}
use Rattle.truth.proofs.Passed.{chosen, pigeonhole}

module _ (M₁ M₂ : List ℕ) (m₁ m₂ : Members) where
  -- the nodes of both machines, numbered from 0: number x is a node of block c
  Placed : ℕ → ℕ → Type 0
  Placed c x = ((s : ℕ) × In M₁ m₁ c s × (x ≡ s - 1)) ⊎ ((t : ℕ) × In M₂ m₂ c t × (x ≡ nodes M₁ + (t - 1)))

  placed : (c : ℕ) → Inhabited M₁ M₂ m₁ m₂ c → (x : ℕ) × Placed c x
  unfolding Inhabited Placed
  placed c (inl i) = (i.0 - 1, inl (i.0, i.1, refl))
  placed c (inr i) = (nodes M₁ + (i.0 - 1), inr (i.0, i.1, refl))

  placed_below : (c x : ℕ) → Placed c x → x < nodes M₁ + nodes M₂
  unfolding Placed In
  placed_below c x (inl p) = omega arith
  placed_below c x (inr p) = omega arith

  module _ (count : ℕ) (once₁ : Disjoint M₁ m₁ count) (once₂ : Disjoint M₂ m₂ count) where
    placed-once : (c d x : ℕ) → c < count → d < count → Placed c x → Placed d x → c ≡ d
    unfolding Placed In Disjoint
    placed-once c d x h l (inl p) (inl q) = let e : q.0 ≡ p.0 = omega arith in once₁ c d p.0 h l p.1 (rw e at q.1)
    placed-once c d x h l (inl p) (inr q) = absurd (omega arith)
    placed-once c d x h l (inr p) (inl q) = absurd (omega arith)
    placed-once c d x h l (inr p) (inr q) = let e : q.0 ≡ p.0 = omega arith in once₂ c d p.0 h l p.1 (rw e at q.1)

    pub at-most-nodes : ((c : ℕ) → c < count → Inhabited M₁ M₂ m₁ m₂ c) → count ≤ nodes M₁ + nodes M₂
    at-most-nodes some =
        let N = nodes M₁ + nodes M₂ in
        let g = chosen (λ c. c < count) (λ c. dec_lt c count) Placed (λ c h. placed c (some c h)) in
        by_cases (dec_le count N) (λ le. le) (λ gt.
        let r = pigeonhole N g.0 (λ i le. placed_below i (g.0 i) (g.1 i (omega arith))) in
        let e = placed-once r.0 r.1 (g.0 r.0) (omega arith) (omega arith) (g.1 r.0 (omega arith)) (rw r.4 (g.1 r.1 (omega arith))) in
        absurd (omega arith))
