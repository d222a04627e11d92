-- `nodes_where` meets its contract. The invariant: the row has the nodes before s that pass.
use mathlib.Core.Path.{◌≡◌}
use mathlib.Core.Bool.{Bool}
use Prim.Native.Nat.{ℕ, ◌+◌, ◌≤◌}
use Rattle.truth.specs.inner.Rows.{row_has}
use Rattle.truth.specs.inner.Tested.{Tests}
use Rattle.truth.proofs.structure.NodeLoops.{before}
use Rattle.truth.proofs.structure.nodes_where.Given as goal

abbrev pub invariant-loop-s : goal.invariant-loop-s
invariant-loop-s g l = (l.s ≤ l.n + 1) × ((p : ℕ → Bool) → Tests l.n g.F.Fn l.test p → (i : ℕ) → row_has l.out i ≡ before p l.s i)
