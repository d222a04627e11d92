-- `by_next` meets its contract: the block is split by the nodes with an edge into the other block, which are looked for in it alone.
use Rattle.truth.specs.inner.Rows.{row_has, rows_has, leads_into}
use Rattle.comparison.proofs.Splitters.{block-leading}
use Rattle.comparison.proofs.FinerBlocks.{split-within}
use Rattle.comparison.proofs.blocks.Partition.by_next.Goals as goal

pub returns : goal.returns
returns c =
    let ms = c.args.ms.now in
    let p = c.args.self.now in
    let here = c.block-block in
    let into = c.block-into in
    let one = c.leading in
    let two = c.leading-2 in
    split-within p _ c.args.c _ (row_has one.result) (row_has two.result)
    (leads_into ms.first.words.now (rows_has p.rows.first c.args.d)) (leads_into ms.second.words.now (rows_has p.rows.second c.args.d))
    (block-leading ms.first.words.now (row_has one.result) (row_has here.result.first) (row_has into.result.first) _ _ one.ensures here.ensures.first into.ensures.first)
    (block-leading ms.second.words.now (row_has two.result) (row_has here.result.second) (row_has into.result.second) _ _ two.ensures here.ensures.second into.ensures.second)
    c.split_block.ensures
