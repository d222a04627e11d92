-- `add_before` meets its contract. The invariant: the node is in the rows of the members that were taken.
use Rattle.truth.specs.inner.Rows.{row_has}
use Rattle.truth.proofs.structure.EdgesAdded.{Adding}
use Rattle.truth.proofs.structure.add_before.Given as goal

abbrev pub invariant-loop-u : goal.invariant-loop-u
invariant-loop-u l = Adding (row_has l.fn.set) (row_has l.u-iterator.left) l.s l.initial.out l.out
