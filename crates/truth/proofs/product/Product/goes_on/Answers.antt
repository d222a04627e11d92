-- `goes_on` meets its contract. The invariant: the nodes of the positions that were taken are in the row.
use Rattle.truth.specs.inner.Rows.{row_has}
use Rattle.truth.proofs.trimming.TrimSteps.{passing-next}
use Rattle.truth.proofs.product.Product.goes_on.Goals as goal

pub loop-u-preserved : goal.loop-u-preserved
loop-u-preserved c =
    let taken = c.in-Some.ensures.steps in
    let may = c.load-may.ensures in
    let there = c.load-there.ensures in
    passing-next _ _ _ _ _ _ c.loop-u.invariant _ _ (row_has c.intersection.result) _ _ _ _ _ taken.first.is_in
    taken.less c.union-out.ensures c.intersection.ensures may.0 may.1 there.0 there.1
