-- The members and the lines of the blocks after a split.
use mathlib.Core.Path.{◌≡◌, refl, ap, ap₂}
use mathlib.Core.Logic.{◌≢◌}
use Prim.Native.Nat.{ℕ, ◌+◌, ◌<◌}
use native.Mathlib.Omega.{arith}
use mathlib.Core.Bool.{Bool, true, false, not, ◌&&◌}
use borrow.Author.Tests.{eq-eqb, ne_eqb}
use lib.Dec.{eqb}
use Rattle.comparison.specs.inner.Blocks.{Members}
use Rattle.comparison.specs.inner.Refinement.{Parted, Lined}

-- x at block c, y at the added block, z at the others
choose : {X : Type 0} → Bool → Bool → X → X → X → X
choose true b x y z = x
choose false true x y z = y
choose false false x y z = z

module _ {X : Type 0} (count c : ℕ) (x y z : X) where
  at_here : choose (eqb c c) (eqb c count) x y z ≡ x
  unfolding choose
  at_here = ap (λ (b : Bool). choose b (eqb c count) x y z) (eq-eqb c c refl)

  at_added : c < count → choose (eqb count c) (eqb count count) x y z ≡ y
  unfolding choose
  at_added h = ap₂ (λ (a b : Bool). choose a b x y z) (ne_eqb count c (omega arith)) (eq-eqb count count refl)

  at_others : (d : ℕ) → d < count → d ≢ c → choose (eqb d c) (eqb d count) x y z ≡ z
  unfolding choose
  at_others d h f = ap₂ (λ (a b : Bool). choose a b x y z) (ne_eqb d c f) (ne_eqb d count (omega arith))

unfoldable pub part_members : ℕ → ℕ → (ℕ → Bool) → Members → Members
unfolding choose
part_members count c x mem d s = choose (eqb d c) (eqb d count) (mem c s && x s) (mem c s && not (x s)) (mem d s)

unfoldable pub part_lines : ℕ → ℕ → ℕ → (ℕ → ℕ) → ℕ → ℕ
unfolding choose
part_lines count c n line d = choose (eqb d c) (eqb d count) (n + 4) (n + 6) (line d)

pub parted : (count c : ℕ) → c < count → (x : ℕ → Bool) (mem : Members) → Parted count c x mem (part_members count c x mem)
unfolding part_members
parted count c h x mem = record {
  here = λ s. at_here count c (mem c s && x s) (mem c s && not (x s)) (mem c s);
  added = λ s. at_added count c (mem c s && x s) (mem c s && not (x s)) (mem count s) h;
  others = λ d s l f. at_others count c (mem c s && x s) (mem c s && not (x s)) (mem d s) d l f;
}

pub lined : (count c n : ℕ) → c < count → (line : ℕ → ℕ) → Lined count c n line (part_lines count c n line)
unfolding part_lines
lined count c n h line = record {
  here = at_here count c (n + 4) (n + 6) (line c);
  added = at_added count c (n + 4) (n + 6) (line count) h;
  others = λ d l f. at_others count c (n + 4) (n + 6) (line d) d l f;
}
