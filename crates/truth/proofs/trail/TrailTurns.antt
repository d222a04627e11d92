-- A turn of a trail: the range of a pair of its tables, and the pair after it, in the lasting set or with an earlier time.
use mathlib.Core.Path.{◌≡◌}
use mathlib.Core.Logic.{⊎_elim}
use Prim.Native.Nat.{ℕ, ◌≤◌, ◌<◌}
use native.Mathlib.Omega.{arith}
use mathlib.Core.List.{List}
use mathlib.Core.Bool.{true, false}
use lib.Dec.{T, T_not}
use Rattle.truth.specs.Sizes.{positions_most, members_most}
use Rattle.truth.specs.inner.Rows.{rows_has}
use Rattle.truth.specs.inner.Pairs.{PairStep, Onward, Sooner}
use Rattle.truth.specs.inner.Trails.{Traceable, Advances}
use Rattle.truth.proofs.rows.RowLaws.{held_in}
use Rattle.truth.proofs.structure.EdgesBack.{reaches-up}

module _ {allow next : List ℕ} {t n : ℕ} {xs ys times : List ℕ} {s : ℕ} (w : Traceable allow next t n xs ys times s) (p u : ℕ) (l : p < t) where
  -- a pair's node is one of 1 to n
  pub in-range : T (rows_has ys p u) → (1 ≤ u) × (u ≤ n)
  in-range i = ((held_in _ _ u i).0, reaches-up allow next t n xs w.few w.allow-up w.xs-up l (w.least.reaches p u l i))

  pub in-places : T (rows_has ys p u) → (p < positions_most) × (1 ≤ u) × (u ≤ members_most)
  in-places i = let r = in-range i in (omega (arith, w.few), r.0, omega (arith, w.nodes, r.1))

  pub goes-onward : rows_has xs p u ≡ true → Onward allow next t (rows_has xs) p u
  goes-onward e = w.lasts p u l (rw e tt)

  pub goes-sooner : rows_has xs p u ≡ false → T (rows_has ys p u) → Sooner allow next t ys times p u
  goes-sooner e i = ⊎_elim (λ x. absurd (rw e at x)) (λ r. r) (w.least.falls w.timed p u l i)

  module _ (p' u' : ℕ) (step : PairStep allow next t p u p' u') where
    pub advances-onward : rows_has xs p u ≡ true → T (rows_has xs p' u') → Advances allow next t xs ys times p u p' u'
    advances-onward e i = record {
      steps = step;
      inside = w.least.keeps p' u' step.below i;
      lasting = λ x. i;
      falls = λ x. absurd (T_not (rows_has xs p u) x (rw e tt));
    }
