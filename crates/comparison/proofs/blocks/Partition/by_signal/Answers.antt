-- `by_signal` meets its contract. The invariant: the rows of the signal split no block before c, and none that was added.
use native.Mathlib.Omega.{arith}
use borrow.Author.Rules.{rules}
use Rattle.truth.specs.Passed.{kripke}
use Rattle.truth.specs.inner.Rows.{row_has}
use Rattle.comparison.proofs.DividingBlocks.{dividing-none, dividing-skip, dividing-room, dividing-more, dividing-end}
use Rattle.comparison.proofs.Splitters.{signal-ready, divided-rows}
use Rattle.comparison.proofs.blocks.Partition.by_signal.Goals as goal
use Rattle.comparison.proofs.blocks.Partition.by_signal.Goals.{then-splits, else-splits}

pub loop-c-init : goal.loop-c-init
unfolding kripke
loop-c-init c =
    let ms = c.args.ms.now in
    dividing-none _ _ _ _ _ _ (signal-ready ms.first.words.now ms.second.words.now c.args.self.now c.requires.staged c.args.i c.requires.low c.requires.high _ _ (search rules) (search rules))

pub split_block-requires : goal.split_block-requires
split_block-requires c =
    dividing-room _ _ _ _ _ _ _ _ c.loop-c.invariant (omega arith) ((c.splits.ensures _ _).yes c.if-splits.true)

pub loop-c-preserved : goal.loop-c-preserved
loop-c-preserved c = elim c.if-splits.branch [
  | then-splits w ↦ rw w.self-is (dividing-more _ _ _ _ _ _ _ _ c.loop-c.invariant (omega arith) ((c.splits.ensures _ _).yes w.if-splits.true) _ w.split_block.ensures)
  | else-splits w ↦ rw w.self-is (dividing-skip _ _ _ _ _ _ _ _ c.loop-c.invariant ((c.splits.ensures _ _).no w.if-splits.false))
]

pub returns : goal.returns
unfolding kripke
returns c =
    let ms = c.args.ms.now in
    divided-rows ms.first.words.now ms.second.words.now c.args.self.now c.requires.staged ((kripke ms.first.words.now).signal c.args.i) ((kripke ms.second.words.now).signal c.args.i) (row_has c.map-x.result.first) (row_has c.map-x.result.second)
    (search rules) (search rules) _ (dividing-end _ _ _ _ _ _ _ _ c.loop-c.invariant (omega arith))
