-- How many blocks there are at most: of one machine, taken twice, as many as it has nodes; so 128 for one machine, and for two with 128 nodes together.
use mathlib.Core.Path.{◌≡◌, subst}
use mathlib.Core.Logic.{⊎_elim, by_cases}
use Prim.Native.Nat.{ℕ, ◌-◌, ◌≤◌, ◌<◌}
use native.Mathlib.Omega.{arith}
use native.Mathlib.Decide.{dec_le, dec_lt}
use mathlib.Core.List.{List}
use lib.Dec.{T}
use Rattle.truth.specs.Passed.{nodes, signals, machine_refusal, nodes_most}
use Rattle.truth.proofs.Passed.{chosen, pigeonhole, nodes-sized}
use Rattle.comparison.specs.inner.Lines.{Entry}
use Rattle.comparison.specs.inner.Blocks.{Members, In, Exact, Disjoint, Inhabited}
use Rattle.comparison.specs.inner.Refinement.{Refinement}
use Rattle.comparison.proofs.Refinement.{blocks-few}
use Rattle.comparison.specs.inner.Bounded.{Bounded}

module _ (M : List ℕ) (ok : machine_refusal M ≡ 0) (ls : List Entry) (count : ℕ) (line : ℕ → ℕ) (m₁ m₂ : Members)
    (r : Refinement (signals M) M M ls count line m₁ m₂) where
  -- the blocks are the same both times
  same-members : (c s : ℕ) → c < count → 1 ≤ s → s ≤ nodes M → T (m₂ c s) → T (m₁ c s)
  unfolding Exact
  same-members c s h lo hi x = (r.first.exact c h s lo hi).0 ((r.second.exact c h s lo hi).1 x)

  -- a node in each block
  inhabited : (c : ℕ) → c < count → (s : ℕ) × In M m₁ c s
  unfolding Inhabited In
  inhabited c h = ⊎_elim (λ i. i) (λ i. let n = i.1 in (i.0, (n.0, n.1, same-members c i.0 h n.0 n.1 n.2))) (r.inhabited c h)

  pub blocks-of-one : count ≤ nodes M
  unfolding In Disjoint
  blocks-of-one =
      let g = chosen (λ c. c < count) (λ c. dec_lt c count) (λ c s. In M m₁ c s) inhabited in
      by_cases (dec_le count (nodes M)) (λ le. le) (λ gt.
      let f = pigeonhole (nodes M) (λ c. g.0 c - 1) (λ c le. let n = g.1 c (omega arith) in omega arith) in
      let n = g.1 f.0 (omega arith) in
      let k = g.1 f.1 (omega arith) in
      let same : g.0 f.1 ≡ g.0 f.0 = omega (arith, f.4) in
      let e = r.first.once f.0 f.1 (g.0 f.0) (omega arith) (omega arith) n (rw same at k) in
      absurd (omega arith))

pub blocks-bounded : (M₁ M₂ : List ℕ) (ok₁ : machine_refusal M₁ ≡ 0) (ok₂ : machine_refusal M₂ ≡ 0) → Bounded M₁ M₂
    → (ls : List Entry) (count : ℕ) (line : ℕ → ℕ) (m₁ m₂ : Members) → Refinement (signals M₁) M₁ M₂ ls count line m₁ m₂ → count ≤ nodes_most
unfolding Bounded
blocks-bounded M₁ M₂ ok₁ ok₂ b ls count line m₁ m₂ r =
    ⊎_elim (λ few. omega (arith, blocks-few (signals M₁) M₁ M₂ ok₁ ok₂ ls count line m₁ m₂ r))
    (λ e.
    let one = blocks-of-one M₁ ok₁ ls count line m₁ m₂ (subst (λ (M : List ℕ). Refinement (signals M₁) M₁ M ls count line m₁ m₂) e r) in
    omega (arith, nodes-sized M₁ ok₁)) b
