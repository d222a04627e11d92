-- `marks_into` meets its contract: all the marks that there are are among those that are known.
use Rattle.truth.specs.inner.Rows.{row_has}
use Rattle.truth.proofs.marks.NotedMarks.{covered}
use Rattle.truth.proofs.structure.Machine.marks_into.Goals as goal

pub marks_among-requires : goal.marks_among-requires
marks_among-requires c = covered c.args.self.now.words.now c.args.marks.now.of c.args.s (row_has c.args.marks.now.all) c.args.marks.now.every
