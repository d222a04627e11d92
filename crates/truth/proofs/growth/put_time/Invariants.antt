-- `put_time` meets its contract. The invariant: the nodes that were taken have the time, and all else is as it was.
use Rattle.truth.specs.inner.Rows.{row_has}
use Rattle.truth.proofs.growth.RowTimes.{Putting}
use Rattle.truth.proofs.growth.put_time.Given as goal

abbrev pub invariant-loop-s : goal.invariant-loop-s
invariant-loop-s l = Putting (row_has l.fn.row) (row_has l.s-iterator.left) l.p l.time l.initial.times l.times
