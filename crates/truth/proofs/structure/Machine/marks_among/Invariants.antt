-- `marks_among` meets its contract. The invariant: the marks of the successors that were taken are gathered.
use Rattle.truth.specs.inner.Rows.{row_has}
use Rattle.truth.proofs.marks.NotedMarks.{Noted}
use Rattle.truth.proofs.structure.Machine.marks_among.Given as goal

abbrev pub invariant-loop-t : goal.invariant-loop-t
invariant-loop-t l = Noted l.of (row_has l.initial.t-iterator.left) (row_has l.t-iterator.left) (row_has l.out)
