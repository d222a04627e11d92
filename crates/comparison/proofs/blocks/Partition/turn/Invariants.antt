-- `turn` meets its contract. The invariant: the blocks have their marks, and where there is no block more, no "some next" of a block splits one before c. The
-- measure is the blocks that may still come, and then the blocks from c on.
use Prim.Native.Nat.{◌+◌, ◌-◌, ◌*◌}
use Rattle.truth.specs.Passed.{nodes_most}
use Rattle.comparison.specs.inner.Sizes.{block_places}
use Rattle.comparison.proofs.TurningBlocks.{Turning}
use Rattle.comparison.proofs.blocks.Partition.turn.Given as goal

abbrev pub invariant-loop-c : goal.invariant-loop-c
invariant-loop-c l =
    Turning l.ms.first.words.now l.ms.second.words.now l.initial.self l.self l.marks.first.of l.marks.second.of l.c

abbrev pub decreases-loop-c : goal.decreases-loop-c
decreases-loop-c l =
    block_places * (nodes_most - l.self.count) + (nodes_most - l.c)
