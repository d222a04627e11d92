-- `by_signal` meets its contract. The invariant: the rows of the signal split no block before c, and none that was added.
use Rattle.truth.specs.inner.Rows.{row_has}
use Rattle.comparison.proofs.DividingBlocks.{Dividing}
use Rattle.comparison.proofs.blocks.Partition.by_signal.Given as goal

abbrev pub invariant-loop-c : goal.invariant-loop-c
invariant-loop-c l = Dividing l.ms.first.words.now l.ms.second.words.now l.initial.self l.self l.i (row_has l.x.first) (row_has l.x.second) l.c
