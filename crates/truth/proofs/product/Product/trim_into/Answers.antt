-- `trim_into` meets its contract. The invariant: the rows that were taken were looked at.
use Prim.Native.Nat.{◌-◌}
use Rattle.truth.specs.inner.Rows.{row_has}
use Rattle.truth.proofs.rows.RowWalks.{visited-next}
use Rattle.truth.proofs.trimming.TrimMoves.{moved_more, owing-still}
use Rattle.truth.proofs.product.Product.trim_into.Goals as goal

pub loop-u-preserved : goal.loop-u-preserved
loop-u-preserved c =
    let a = c.args in
    let inv = c.loop-u.invariant in
    let row = c.trim_row.ensures in record {
      moved = moved_more inv.moved row.moved;
      owing = visited-next _ _ _ inv.owing _ _ _ c.in-Some.ensures.steps.less (λ v. owing-still a.p2 (row_has a.pre) row.moved (v - 1)) row.owing;
    }
