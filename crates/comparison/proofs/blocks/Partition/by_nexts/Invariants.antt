-- `by_nexts` meets its contract. The invariant: no signal splits a block. The measure is the blocks that may still come.
use Prim.Native.Nat.{◌-◌}
use Rattle.truth.specs.Passed.{nodes_most}
use Rattle.comparison.specs.inner.Stages.{Signalled}
use Rattle.comparison.proofs.blocks.Partition.by_nexts.Given as goal

abbrev pub invariant-loop-self : goal.invariant-loop-self
invariant-loop-self l = Signalled l.ms.first.words.now l.ms.second.words.now l.self

abbrev pub decreases-loop-self : goal.decreases-loop-self
decreases-loop-self l = nodes_most - l.self.count
