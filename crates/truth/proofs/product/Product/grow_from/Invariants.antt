-- `grow_from` meets its contract. The invariant: the pairs of the positions that were taken are added.
use mathlib.Core.Path.{◌≡◌}
use Prim.Native.Nat.{ℕ}
use lib.Dec.{T}
use Rattle.truth.specs.inner.Rows.{row_has}
use Rattle.truth.specs.inner.Growing.{Spread, enters}
use Rattle.truth.proofs.growth.Spreading.{among}
use Rattle.truth.proofs.product.Product.grow_from.Given as goal

abbrev pub invariant-loop-u : goal.invariant-loop-u
invariant-loop-u l = record {
  rest : (u : ℕ) → T (row_has l.u-iterator.left u) → T (row_has l.initial.u-iterator.left u);
  spread : Spread (among (row_has l.initial.u-iterator.left) (row_has l.u-iterator.left) (enters l.self.moves.now.allow l.p2 (row_has l.prev))) l.initial.pairs.time l.initial.pairs.reached l.initial.pairs.fresh l.initial.times l.pairs.reached l.pairs.fresh l.times;
  time : l.pairs.time ≡ l.initial.pairs.time;
}
