-- `by_nexts` meets its contract. The invariant: no signal splits a block. The measure is the blocks that may still come.
use Rattle.comparison.proofs.SettlingBlocks.{signalled-on, settled-end, turns-fewer}
use Rattle.comparison.proofs.blocks.Partition.by_nexts.Goals as goal

pub returns-then-self-before : goal.returns-then-self-before
returns-then-self-before c = settled-end _ _ c.loop-self.self c.turn.new.self c.turn.ensures c.loop-self.invariant c.if-self-before.true

pub loop-self-smaller : goal.loop-self-smaller
loop-self-smaller c = turns-fewer _ _ c.loop-self.self c.turn.new.self c.turn.ensures c.if-self-before.false

pub loop-self-preserved : goal.loop-self-preserved
loop-self-preserved c = signalled-on _ _ c.loop-self.self c.turn.new.self c.turn.ensures c.loop-self.invariant
