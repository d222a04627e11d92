-- `together` meets its contract. The invariant: the rows of the members that were taken are gathered.
use Rattle.truth.specs.inner.Rows.{row_has}
use Rattle.truth.proofs.rows.RowWalks.{Gathered}
use Rattle.truth.proofs.structure.together.Given as goal

abbrev pub invariant-loop-u : goal.invariant-loop-u
invariant-loop-u l = Gathered l.table (row_has l.fn.set) (row_has l.u-iterator.left) (row_has l.out)
