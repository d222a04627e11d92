-- A block with a start node of one machine only tells the two apart: the rule is "not" of the line that is true on the block.
use mathlib.Core.Path.{◌≡◌, ◌∙◌}
use mathlib.Core.Logic.Iff
use mathlib.Core.Logic.{inl, inr, ◌↔◌}
use Prim.Native.Nat.{ℕ, ◌+◌, ◌≤◌}
use native.Mathlib.Omega.{arith}
use mathlib.Core.List.{List, [], ◌∷◌, ◌++◌}
use lib.ListN.{length, length-append}
use Rattle.truth.specs.Passed.{nodes, lifted, lines, machine_refusal, line_words}
use Rattle.truth.specs.Truth.{Keeps}
use Rattle.truth.proofs.Passed.{start-node}
use Rattle.truth.proofs.LentTruth.{same-keeps}
use Rattle.comparison.specs.Comparison.{ToldApart}
use Rattle.comparison.specs.inner.Lines.{Entry, neg, sheet, Refers, Downward}
use Rattle.comparison.specs.inner.Blocks.{TrueIn, Exact, Members, HasStart, OneStart}
use Rattle.comparison.proofs.Lines.{lines_are}
use Rattle.comparison.proofs.TrueLines.{true-neg}
use Rattle.comparison.proofs.AddedLines.{entry-one, down-one, true-kept}

-- with one more line: not line j
abbrev pub negated : List Entry → ℕ → List Entry
negated ls j = ls ++ neg j ∷ []

module _ (a : ℕ) (ls : List Entry) (down : Downward a ls) (j : ℕ) (lo : 1 ≤ j) (hi : j ≤ length ls) where
  pub down-negated : Downward a (negated ls j)
  unfolding Refers
  down-negated = down-one a ls (neg j) down (lo, omega arith)

  last : lines (sheet (negated ls j)) ≡ length ls + 1
  last = lines_are (negated ls j) ∙ length-append ls (neg j ∷ [])

  module _ (M : List ℕ) (ok : machine_refusal M ≡ 0) where
    pub last_says : (s : ℕ) → 1 ≤ s → s ≤ nodes M
        → TrueIn M (negated ls j) (lines (sheet (negated ls j))) s ↔ (TrueIn M ls j s → ⊥)
    last_says s l h =
        rw last
        (Iff.trans (true-neg M ok a (negated ls j) down-negated (length ls + 1) (omega arith) (omega (arith, length-append ls (neg j ∷ []))) s l h j
        (entry-one ls (neg j)))
        (Iff.not (Iff.symm (true-kept ls (neg j ∷ []) M ok a down down-negated j lo hi s l h))))

    module _ (mem : Members) (c : ℕ) (exact : Exact M ls j (mem c)) where
      pub breaks : HasStart M mem c → Keeps (lifted line_words) M (sheet (negated ls j)) → ⊥
      unfolding Exact HasStart Keeps
      breaks x k =
          let r = start-node M x.0 x.1 in
          (last_says x.0 r.0 r.1).0 (k x.0 x.1) ((exact x.0 r.0 r.1).1 x.2)

      pub keeps : (HasStart M mem c → ⊥) → Keeps (lifted line_words) M (sheet (negated ls j))
      unfolding Exact HasStart Keeps
      keeps f s x =
          let r = start-node M s x in
          (last_says s r.0 r.1).1 (λ t. f (s, x, (exact s r.0 r.1).0 t))

  module _ (M₁ M₂ : List ℕ) (ok₁ : machine_refusal M₁ ≡ 0) (ok₂ : machine_refusal M₂ ≡ 0) (m₁ m₂ : Members) (c : ℕ)
      (exact₁ : Exact M₁ ls j (m₁ c)) (exact₂ : Exact M₂ ls j (m₂ c)) where
    pub told-apart : OneStart M₁ M₂ m₁ m₂ c → ToldApart M₁ M₂ (sheet (negated ls j))
    unfolding ToldApart OneStart
    told-apart (inl x) =
        let R = sheet (negated ls j) in
        inr (λ k. breaks M₁ ok₁ m₁ c exact₁ x.0 ((same-keeps M₁ R).0 k), (same-keeps M₂ R).1 (keeps M₂ ok₂ m₂ c exact₂ x.1))
    told-apart (inr x) =
        let R = sheet (negated ls j) in
        inl ((same-keeps M₁ R).1 (keeps M₁ ok₁ m₁ c exact₁ x.0), λ k. breaks M₂ ok₂ m₂ c exact₂ x.1 ((same-keeps M₂ R).0 k))
