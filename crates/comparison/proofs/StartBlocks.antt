-- Whether a block has a start node, by the row of the start nodes that the code makes; and what two such tests say of a block.
use mathlib.Core.Path.{◌≡◌, refl, sym, subst}
use mathlib.Core.Logic.{inl, inr, ◌↔◌, ⊎_elim}
use Prim.Native.Nat.{ℕ, ◌≤◌, ◌<◌}
use native.Mathlib.Omega.{arith}
use mathlib.Core.List.{List}
use mathlib.Core.Bool.{Bool, true, false, not, ◌&&◌, beq, true≢false}
use lib.Dec.{T, T_not, not_T}
use Rattle.truth.specs.Sizes.{members_most}
use Rattle.truth.specs.Passed.{nodes, each, nodes_most}
use Rattle.truth.proofs.Passed.{and_left, and_right, and_both, each_at, each_in, find, start-node}
use Rattle.truth.proofs.labelling.StartRows.{start_test, start-tested, tested-start}
use Rattle.comparison.specs.inner.Blocks.{Members, HasStart, OneStart}
use Rattle.std.specs.Prelude.{Option, None, Some, MatchOption}
use Rattle.comparison.specs.inner.Sides.{OneSided, has_start, differ}

module _ (M : List ℕ) (small : nodes M ≤ nodes_most) (x : ℕ → Bool) (starts : (s : ℕ) → x s ≡ start_test M small s) where
  -- the block meets the row
  pub has-start : (mem : Members) (c : ℕ) (r : Bool) → r ≡ not (each members_most (λ s. not (mem c s && x s))) → T r ↔ HasStart M mem c
  unfolding HasStart
  has-start mem c r e = (
    λ t. ⊎_elim
        (λ f. (
          f.0,
          tested-start M small f.0 f.1
              (subst T (starts f.0) (and_right (mem c f.0) (x f.0) f.3)),
          and_left (mem c f.0) (x f.0) f.3,
        ))
        (λ none. absurd (T_not (each members_most (λ s. not (mem c s && x s))) (subst T e t) (each_in members_most (λ s. not (mem c s && x s)) none)))
        (find members_most (λ s. mem c s && x s)),
    λ h. rw e (not_T (each members_most (λ s. not (mem c s && x s))) (λ all.
        let n = start-node M h.0 h.1 in
        T_not (mem c h.0 && x h.0) (each_at members_most (λ s. not (mem c s && x s)) all h.0 n.0 (omega arith))
        (and_both (mem c h.0) (x h.0) h.2 (subst T (sym (starts h.0)) (start-tested M small h.0 h.1))))),
  )

-- ---- two tests that agree, or do not, as the code asks it

beq_same : (a b : Bool) → not (beq a b) ≡ false → a ≡ b
beq_same true true e = refl
beq_same true false e = e
beq_same false true e = sym e
beq_same false false e = refl

pub agree : {A B : Type 0} (a b : Bool) → T a ↔ A → T b ↔ B → not (beq a b) ≡ false → A ↔ B
agree a b f g n = let e = beq_same a b n in (λ x. g.0 (subst T e (f.1 x)), λ y. f.0 (subst T (sym e) (g.1 y)))

pub one-start : (M₁ M₂ : List ℕ) (m₁ m₂ : Members) (c : ℕ) (a b : Bool) → T a ↔ HasStart M₁ m₁ c → T b ↔ HasStart M₂ m₂ c → not (beq a b) ≡ true
    → OneStart M₁ M₂ m₁ m₂ c
unfolding OneStart
one-start M₁ M₂ m₁ m₂ c true true f g n = absurd (true≢false (sym n))
one-start M₁ M₂ m₁ m₂ c true false f g n = inl (f.0 tt, λ y. g.1 y)
one-start M₁ M₂ m₁ m₂ c false true f g n = inr (λ x. f.1 x, g.0 tt)
one-start M₁ M₂ m₁ m₂ c false false f g n = absurd (true≢false (sym n))

-- ---- the search over the blocks

module _ (M₁ M₂ : List ℕ) (m₁ m₂ : Members) (few₁ : nodes M₁ ≤ nodes_most) (few₂ : nodes M₂ ≤ nodes_most) (x₁ x₂ : ℕ → Bool)
    (starts₁ : (s : ℕ) → x₁ s ≡ start_test M₁ few₁ s) (starts₂ : (s : ℕ) → x₂ s ≡ start_test M₂ few₂ s) where
  -- what is asked of block c
  abbrev pub one-only : ℕ → Bool
  one-only c = differ (has_start (m₁ c) x₁) (has_start (m₂ c) x₂)

  pub side-searched : (count : ℕ) (r : Option ℕ)
      → MatchOption r ((c : ℕ) → 0 ≤ c → c < count → one-only c ≡ false) (λ c. (0 ≤ c) × (c < count) × (one-only c ≡ true) × ((b : ℕ) → 0 ≤ b → b < c → one-only b ≡ false))
      → OneSided M₁ M₂ m₁ m₂ count r
  side-searched count None none = λ c h.
      agree (has_start (m₁ c) x₁) (has_start (m₂ c) x₂) (has-start M₁ few₁ x₁ starts₁ m₁ c _ refl) (has-start M₂ few₂ x₂ starts₂ m₂ c _ refl) (none c (omega arith) h)
  side-searched count (Some c) found =
      (found.1, one-start M₁ M₂ m₁ m₂ c (has_start (m₁ c) x₁) (has_start (m₂ c) x₂) (has-start M₁ few₁ x₁ starts₁ m₁ c _ refl) (has-start M₂ few₂ x₂ starts₂ m₂ c _ refl) found.2)
