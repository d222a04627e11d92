-- `add` meets its contract. The invariant: the nodes of the row that are not left have the mark, which is one of all.
use mathlib.Core.Path.{◌≡◌}
use lib.Dec.{T}
use Rattle.sheets.specs.Words.{within}
use Rattle.truth.specs.Sizes.{members_most}
use Rattle.truth.specs.inner.Rows.{row_has}
use Rattle.truth.proofs.marks.MarkedRows.{Marking}
use Rattle.truth.proofs.marks.Marks.add.Given as goal

abbrev pub invariant-loop-s : goal.invariant-loop-s
invariant-loop-s l = record {
  marking : Marking (row_has l.fn.row) l.e l.initial.self.of l.self.of (row_has l.s-iterator.left);
  all : l.self.all ≡ l.initial.self.all;
  has : T (within 1 members_most l.e) → T (row_has l.self.all l.e);
}
