-- `keeps` meets its contract: no start node is outside the row, since the start nodes are among 1 to 128.
use Rattle.truth.specs.inner.Rows.{row_has}
use Rattle.truth.proofs.labelling.StartRows.{starts-in}
use Rattle.truth.proofs.labelling.keeps.Goals as goal

pub returns : goal.returns
returns c =
    let a = c.args in
    starts-in a.m.now c.requires (row_has c.start_row.result) (row_has a.last) (row_has c.difference.result) c.is_empty.result c.start_row.ensures c.difference.ensures c.is_empty.ensures
