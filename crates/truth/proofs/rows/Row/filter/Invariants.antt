-- `filter` meets its contract. The invariant: the nodes that were looked at are filtered.
use mathlib.Core.Bool.{true, false}
use Rattle.truth.specs.inner.Rows.{row_has}
use Rattle.truth.proofs.rows.RowWalks.{Filtered}
use Rattle.truth.proofs.rows.Row.filter.Given as goal

abbrev pub invariant-loop-s : goal.invariant-loop-s
invariant-loop-s g l = Filtered (λ s. g.F.Fn.post l.test (s, tt) true) (λ s. g.F.Fn.post l.test (s, tt) false) (row_has l.fn.self) (row_has l.s-iterator.left) (row_has l.out)
