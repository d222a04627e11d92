-- `goes_on` meets its contract. The invariant: the nodes of the positions that were taken are in the row.
use Rattle.truth.specs.inner.Rows.{row_has}
use Rattle.truth.proofs.trimming.TrimSteps.{Passing}
use Rattle.truth.proofs.product.Product.goes_on.Given as goal

abbrev pub invariant-loop-u : goal.invariant-loop-u
invariant-loop-u l = Passing l.self.moves.now.allow l.table l.p (row_has l.fn.on) (row_has l.u-iterator.left) (row_has l.out)
