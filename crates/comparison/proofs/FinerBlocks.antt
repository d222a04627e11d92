-- Finer blocks: the parts of a split, one refinement after another, and that what does not split a block does not split its parts.
use mathlib.Core.Path.{◌≡◌, refl, subst, ◌∙◌}
use mathlib.Core.Logic.{◌≢◌, inl, inr, ⊎_map}
use Prim.Native.Nat.{ℕ, ◌≤◌, ◌<◌}
use native.Mathlib.Omega.{arith}
use mathlib.Core.List.{List}
use mathlib.Core.Bool.{Bool, true, false, not, ◌&&◌}
use lib.Dec.{T}
use Rattle.truth.specs.Passed.{nodes}
use Rattle.truth.proofs.Passed.{and_left, and_right}
use Rattle.comparison.specs.inner.Blocks.{Members, In, AllIn, Meets, Unsplit, Split}
use Rattle.comparison.specs.inner.Refinement.{Parted}
use Rattle.comparison.specs.inner.Tables.{first_of, second_of, SplitBlock}
use Rattle.comparison.specs.declared.blocks.Partition.{Partition}
use Rattle.comparison.specs.inner.Stages.{Finer, Kept}
use Rattle.comparison.proofs.Refinement.{each-block}

-- ---- what does not split a block

-- a part of it
module _ (M₁ M₂ : List ℕ) (m₁ m₂ m₁' m₂' : Members) (c d : ℕ) (in₁ : (s : ℕ) → T (m₁' d s) → T (m₁ c s)) (in₂ : (t : ℕ) → T (m₂' d t) → T (m₂ c t)) where
  pub unsplit-part : (x₁ x₂ : ℕ → Bool) → Unsplit M₁ M₂ m₁ m₂ c x₁ x₂ → Unsplit M₁ M₂ m₁' m₂' d x₁ x₂
  unfolding Unsplit AllIn In
  unsplit-part x₁ x₂ =
      ⊎_map (λ u. (λ s i. u.0 s (i.0, i.1, in₁ s i.2), λ t i. u.1 t (i.0, i.1, in₂ t i.2)))
      (λ u. (λ s i. u.0 s (i.0, i.1, in₁ s i.2), λ t i. u.1 t (i.0, i.1, in₂ t i.2)))

-- other sets that have the same nodes
pub unsplit-as : (M₁ M₂ : List ℕ) (m₁ m₂ : Members) (c : ℕ) (x₁ x₂ y₁ y₂ : ℕ → Bool) → ((s : ℕ) → 1 ≤ s → s ≤ nodes M₁ → x₁ s ≡ y₁ s) → ((t : ℕ) → 1 ≤ t → t ≤ nodes M₂ → x₂ t ≡ y₂ t)
    → Unsplit M₁ M₂ m₁ m₂ c x₁ x₂ → Unsplit M₁ M₂ m₁ m₂ c y₁ y₂
unfolding Unsplit AllIn In
unsplit-as M₁ M₂ m₁ m₂ c x₁ x₂ y₁ y₂ e₁ e₂ =
    ⊎_map (λ u. (λ s i. subst T (e₁ s i.0 i.1) (u.0 s i), λ t i. subst T (e₂ t i.0 i.1) (u.1 t i)))
    (λ u. (
      λ s i. subst (λ (b : Bool). T (not b)) (e₁ s i.0 i.1) (u.0 s i),
      λ t i. subst (λ (b : Bool). T (not b)) (e₂ t i.0 i.1) (u.1 t i),
    ))

pub split-as : (M₁ M₂ : List ℕ) (m₁ m₂ : Members) (c : ℕ) (x₁ x₂ y₁ y₂ : ℕ → Bool) → ((s : ℕ) → 1 ≤ s → s ≤ nodes M₁ → x₁ s ≡ y₁ s) → ((t : ℕ) → 1 ≤ t → t ≤ nodes M₂ → x₂ t ≡ y₂ t)
    → Split M₁ M₂ m₁ m₂ c x₁ x₂ → Split M₁ M₂ m₁ m₂ c y₁ y₂
unfolding Split Meets In
split-as M₁ M₂ m₁ m₂ c x₁ x₂ y₁ y₂ e₁ e₂ d = (
  ⊎_map (λ u. (u.0, u.1, subst T (e₁ u.0 u.1.0 u.1.1) u.2)) (λ u. (u.0, u.1, subst T (e₂ u.0 u.1.0 u.1.1) u.2)) d.0,
  ⊎_map (λ u. (u.0, u.1, subst (λ (b : Bool). T (not b)) (e₁ u.0 u.1.0 u.1.1) u.2))
      (λ u. (u.0, u.1, subst (λ (b : Bool). T (not b)) (e₂ u.0 u.1.0 u.1.1) u.2)) d.1,
)

-- the parts of a split by the sets
module _ (M₁ M₂ : List ℕ) (m₁ m₂ m₁' m₂' : Members) (count c : ℕ) (x₁ x₂ : ℕ → Bool) (p₁ : Parted count c x₁ m₁ m₁') (p₂ : Parted count c x₂ m₂ m₂') where
  pub unsplit-here : Unsplit M₁ M₂ m₁' m₂' c x₁ x₂
  unfolding Unsplit AllIn In
  unsplit-here =
      inl (λ s i. and_right (m₁ c s) (x₁ s) (subst T (p₁.here s) i.2), λ t i. and_right (m₂ c t) (x₂ t) (subst T (p₂.here t) i.2))

  pub unsplit-added : Unsplit M₁ M₂ m₁' m₂' count x₁ x₂
  unfolding Unsplit AllIn In
  unsplit-added =
      inr (λ s i. and_right (m₁ c s) (not (x₁ s)) (subst T (p₁.added s) i.2), λ t i. and_right (m₂ c t) (not (x₂ t)) (subst T (p₂.added t) i.2))

-- ---- a split by sets that were looked for in the block alone

parted-within : (count c : ℕ) (y x : ℕ → Bool) (mem mem' : Members) → ((s : ℕ) → y s ≡ (mem c s && x s)) → Parted count c y mem mem' → Parted count c x mem mem'
parted-within count c y x mem mem' e p = record {
  here = λ s. p.here s ∙ rw (e s) (both (mem c s) (x s));
  added = λ s. p.added s ∙ rw (e s) (outside (mem c s) (x s));
  others = p.others;
}
  where
    both : (m q : Bool) → (m && (m && q)) ≡ (m && q)
    both true q = refl
    both false q = refl

    outside : (m q : Bool) → (m && not (m && q)) ≡ (m && not q)
    outside true q = refl
    outside false q = refl

pub split-within : (st st' : Partition) (c p : ℕ) (y₁ y₂ x₁ x₂ : ℕ → Bool) → ((s : ℕ) → y₁ s ≡ (first_of st c s && x₁ s)) → ((t : ℕ) → y₂ t ≡ (second_of st c t && x₂ t))
    → SplitBlock st st' c p y₁ y₂ → SplitBlock st st' c p x₁ x₂
split-within st st' c p y₁ y₂ x₁ x₂ e₁ e₂ b = record {
  first = record { size = b.first.size; parted = parted-within st.count c y₁ x₁ (first_of st) (first_of st') e₁ b.first.parted };
  second = record { size = b.second.size; parted = parted-within st.count c y₂ x₂ (second_of st) (second_of st') e₂ b.second.parted };
  line = b.line;
  words = b.words;
  count = b.count;
  lines = b.lines;
}

-- ---- finer blocks

pub finer-none : (st : Partition) → Finer st st
finer-none st = record { more = omega arith; part = λ d h. (d, h, λ s t. t, λ s t. t) }

pub finer-then : (a b c : Partition) → Finer a b → Finer b c → Finer a c
finer-then a b c f g = record {
  more = omega (arith, f.more, g.more);
  part = λ d h.
      let y = g.part d h in
      let x = f.part y.0 y.1 in
      (x.0, x.1, λ s t. x.2 s (y.2 s t), λ s t. x.3 s (y.3 s t));
}

pub unsplit-finer : (M₁ M₂ : List ℕ) (st st' : Partition) (x₁ x₂ : ℕ → Bool) → Finer st st' → ((c : ℕ) → c < st.count → Unsplit M₁ M₂ (first_of st) (second_of st) c x₁ x₂)
    → (d : ℕ) → d < st'.count → Unsplit M₁ M₂ (first_of st') (second_of st') d x₁ x₂
unsplit-finer M₁ M₂ st st' x₁ x₂ f u d h =
    let y = f.part d h in
    unsplit-part M₁ M₂ (first_of st) (second_of st) (first_of st') (second_of st') y.0 d y.2 y.3 x₁ x₂ (u y.0 y.1)

-- ---- a split

module _ (st st' : Partition) (c p : ℕ) (x₁ x₂ : ℕ → Bool) (h : c < st.count) (b : SplitBlock st st' c p x₁ x₂) where
  -- a fact of the blocks afterwards: of the added one, of c, and of the others
  each_after : (P : ℕ → Type 0) → P st.count → P c → ((d : ℕ) → d < st.count → d ≢ c → P d) → (d : ℕ) → d < st'.count → P d
  each_after P added here others d l = each-block st.count c P added here others d (omega (arith, b.count))

  pub kept-others : (d : ℕ) → d < st.count → d ≢ c → Kept st st' d
  kept-others d l n = record { was = l; first = λ s. b.first.parted.others d s l n; second = λ t. b.second.parted.others d t l n }

  Part : ℕ → Type 0
  Part d = (c : ℕ) × (c < st.count) × ((s : ℕ) → T (first_of st' d s) → T (first_of st c s)) × ((t : ℕ) → T (second_of st' d t) → T (second_of st c t))

  pub finer-split : Finer st st'
  unfolding Part
  finer-split =
      let q₁ = b.first.parted in
      let q₂ = b.second.parted in
      record {
        more = omega (arith, b.count);
        part = each_after Part
            (c, h, λ s t. and_left (first_of st c s) (not (x₁ s)) (subst T (q₁.added s) t), λ s t. and_left (second_of st c s) (not (x₂ s)) (subst T (q₂.added s) t))
            (c, h, λ s t. and_left (first_of st c s) (x₁ s) (subst T (q₁.here s) t), λ s t. and_left (second_of st c s) (x₂ s) (subst T (q₂.here s) t))
            (λ d l n. (d, l, λ s t. subst T (q₁.others d s l n) t, λ s t. subst T (q₂.others d s l n) t));
      }
