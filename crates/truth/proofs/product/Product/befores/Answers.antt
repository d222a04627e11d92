-- `befores` meets its contract. The invariant: the rows below k have what is before theirs.
use mathlib.Core.Logic.{◌↔◌}
use Prim.Native.Nat.{ℕ}
use native.Mathlib.Omega.{arith}
use lib.Dec.{T}
use Rattle.truth.specs.inner.Rows.{row_has, rows_has}
use Rattle.truth.specs.inner.Pairs.{Before}
use Rattle.truth.proofs.rows.RowLaws.{held_in}
use Rattle.truth.proofs.tables.TableLaws.{filled_more}
use Rattle.truth.proofs.product.Product.befores.Goals as goal

pub together-pre-requires : goal.together-pre-requires
together-pre-requires c = λ u t. omega (arith, (held_in _ _ u t).1)

pub loop-k-preserved : goal.loop-k-preserved
loop-k-preserved c =
    let a = c.args in
    let at = c.loop-k in
    let row = c.load-row.ensures in
    let pre = c.together-pre in
    let here : (s : ℕ) → T (row_has pre.result s) ↔ Before a.self.now.back.now (rows_has a.xs.now at.k) s = rw (row.0, row.1) at pre.ensures in
    filled_more _ at.out _ at.k _ _ at.invariant (omega arith) c.store.ensures here
