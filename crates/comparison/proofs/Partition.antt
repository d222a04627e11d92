-- A stable partition of the nodes of two machines: its blocks cover the nodes, and no signal and no "some next of a block" splits a
-- block. Nodes in one block are bisimilar; so the machines keep the same rules if each block has a start node of both or of neither.
use mathlib.Core.Path.{◌≡◌}
use mathlib.Core.Logic.{◌↔◌, ⊎_elim, ⊎_map}
use Prim.Native.Nat.{ℕ, ◌≤◌, ◌<◌}
use mathlib.Core.List.{List}
use lib.Dec.{T, T_not}
use Rattle.truth.specs.Passed.{kripke, lifted, machine_refusal}
use Rattle.truth.specs.Truth.{Keeps}
use Rattle.truth.specs.inner.Rows.{leads_into}
use Rattle.truth.proofs.Passed.{both-passed, both-failed, edge_stays, start-node}
use Rattle.truth.proofs.Bisimulation.{Bisimulation}
use Rattle.truth.proofs.structure.TargetRows.{leads-into}
use Rattle.comparison.specs.Comparison.{Rule}
use Rattle.comparison.specs.inner.Blocks.{Members, In, HasStart, Covers, Unsplit}
use Rattle.comparison.proofs.Invariance.{keeps-agree}

pub record Stable (a count : ℕ) (M₁ M₂ : List ℕ) (m₁ m₂ : Members) : Type 0 where
  pub covers₁ : Covers M₁ m₁ count
  pub covers₂ : Covers M₂ m₂ count
  pub signals : (c i : ℕ) → c < count → 1 ≤ i → i ≤ a → Unsplit M₁ M₂ m₁ m₂ c ((kripke M₁).signal i) ((kripke M₂).signal i)
  pub nexts : (c d : ℕ) → c < count → d < count → Unsplit M₁ M₂ m₁ m₂ c (leads_into M₁ (m₁ d)) (leads_into M₂ (m₂ d))

unfoldable pub SameBlock : ℕ → (M₁ M₂ : List ℕ) → Members → Members → ℕ → ℕ → Type 0
unfolding In
SameBlock count M₁ M₂ m₁ m₂ s t = (c : ℕ) × (c < count) × In M₁ m₁ c s × In M₂ m₂ c t

-- one half: an edge is followed on the other machine
follows : (count : ℕ) (M₁ M₂ : List ℕ) (m₁ m₂ : Members) → machine_refusal M₁ ≡ 0 → machine_refusal M₂ ≡ 0 → Covers M₁ m₁ count
    → ((c d : ℕ) → c < count → d < count → Unsplit M₁ M₂ m₁ m₂ c (leads_into M₁ (m₁ d)) (leads_into M₂ (m₂ d)))
    → (s t s' : ℕ) → SameBlock count M₁ M₂ m₁ m₂ s t → T ((kripke M₁).edge s s')
    → (t' : ℕ) × T ((kripke M₂).edge t t') × SameBlock count M₁ M₂ m₁ m₂ s' t'
unfolding Covers Unsplit SameBlock
follows count M₁ M₂ m₁ m₂ ok₁ ok₂ covers nexts s t s' b e =
    let x = b.2 in
    let y = b.3 in
    let r = edge_stays M₁ ok₁ s x.0 x.1 s' e in
    let d = covers s' r.0 r.1 in
    ⊎_elim (λ all.
    let f = (leads-into M₂ (m₂ d.0) t).1 (all.1 t y) in
    let r' = edge_stays M₂ ok₂ t y.0 y.1 f.0 f.1 in
    (f.0, f.1, (d.0, d.1, (r.0, r.1, d.2), (r'.0, r'.1, f.2))))
    (λ none. absurd (T_not (leads_into M₁ (m₁ d.0) s) (none.0 s x) ((leads-into M₁ (m₁ d.0) s).0 (s', e, d.2))))
    (nexts b.0 d.0 b.1 d.1)

swap : {X Y : Type 0} → X × Y → Y × X
swap p = (p.1, p.0)

swap-block : (count : ℕ) (M₁ M₂ : List ℕ) (m₁ m₂ : Members) (s t : ℕ) → SameBlock count M₁ M₂ m₁ m₂ s t → SameBlock count M₂ M₁ m₂ m₁ t s
unfolding SameBlock
swap-block count M₁ M₂ m₁ m₂ s t b = (b.0, b.1, b.3, b.2)

-- and a start node
starts-follow : (count : ℕ) (M₁ M₂ : List ℕ) (m₁ m₂ : Members) → Covers M₁ m₁ count → ((c : ℕ) → c < count → HasStart M₁ m₁ c → HasStart M₂ m₂ c)
    → (s : ℕ) → T ((kripke M₁).start s) → (t : ℕ) × T ((kripke M₂).start t) × SameBlock count M₁ M₂ m₁ m₂ s t
unfolding HasStart SameBlock Covers In
starts-follow count M₁ M₂ m₁ m₂ covers starts s x =
    let r = start-node M₁ s x in
    let c = covers s r.0 r.1 in
    let t = starts c.0 c.1 (s, x, c.2) in
    let r' = start-node M₂ t.0 t.1 in
    (t.0, t.1, (c.0, c.1, (r.0, r.1, c.2), (r'.0, r'.1, t.2)))

module _ (a count : ℕ) (M₁ M₂ : List ℕ) (m₁ m₂ : Members) (ok₁ : machine_refusal M₁ ≡ 0) (ok₂ : machine_refusal M₂ ≡ 0)
    (st : Stable a count M₁ M₂ m₁ m₂) where
  pub bisimulation : Bisimulation a (kripke M₁) (kripke M₂) (SameBlock count M₁ M₂ m₁ m₂)
  unfolding SameBlock Unsplit
  bisimulation = record {
    same = λ s t i b lo hi.
        ⊎_elim (λ u. both-passed ((kripke M₁).signal i s) ((kripke M₂).signal i t) (u.0 s b.2) (u.1 t b.3))
        (λ u. both-failed ((kripke M₁).signal i s) ((kripke M₂).signal i t) (u.0 s b.2) (u.1 t b.3)) (st.signals b.0 i b.1 lo hi);
    forth = follows count M₁ M₂ m₁ m₂ ok₁ ok₂ st.covers₁ st.nexts;
    back = λ s t t' b e.
        let f = follows count M₂ M₁ m₂ m₁ ok₂ ok₁ st.covers₂ (λ c d l k. ⊎_map swap swap (st.nexts c d l k)) t s t'
        (swap-block count M₁ M₂ m₁ m₂ s t b) e in
        (f.0, f.1, swap-block count M₂ M₁ m₂ m₁ t' f.0 f.2);
  }

  pub keeps_same : ((c : ℕ) → c < count → HasStart M₁ m₁ c ↔ HasStart M₂ m₂ c) → (L : ℕ) (R : List ℕ) → Rule a L R
      → Keeps (lifted L) M₁ R ↔ Keeps (lifted L) M₂ R
  keeps_same starts L R rule =
      keeps-agree a M₁ M₂ (SameBlock count M₁ M₂ m₁ m₂) bisimulation L R rule
      (starts-follow count M₁ M₂ m₁ m₂ st.covers₁ (λ c h. (starts c h).0))
      (λ t x.
      let f = starts-follow count M₂ M₁ m₂ m₁ st.covers₂ (λ c h. (starts c h).1) t x in
      (f.0, f.1, swap-block count M₂ M₁ m₂ m₁ t f.0 f.2))
