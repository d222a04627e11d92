-- `marks` meets its contract. The invariant: the nodes of the blocks before c have their marks, and there are no others.
use mathlib.Core.Path.{◌≡◌}
use Prim.Native.Nat.{ℕ, ◌+◌}
use mathlib.Core.Bool.{true}
use Rattle.truth.specs.inner.Rows.{row_has, rows_has}
use Rattle.truth.proofs.structure.NodeLoops.{before}
use Rattle.comparison.specs.inner.Signatures.{BlockMarks}
use Rattle.comparison.proofs.blocks.Partition.marks.Given as goal

abbrev pub invariant-loop-c : goal.invariant-loop-c
invariant-loop-c l = record {
  first : BlockMarks (rows_has l.self.rows.first) l.c l.marks.first.of;
  second : BlockMarks (rows_has l.self.rows.second) l.c l.marks.second.of;
  first_all : (e : ℕ) → row_has l.marks.first.all e ≡ before (λ k. true) (l.c + 1) e;
  second_all : (e : ℕ) → row_has l.marks.second.all e ≡ before (λ k. true) (l.c + 1) e;
}
