-- `by_signals` meets its contract. The invariant: the signals below i split no block.
use Rattle.comparison.proofs.SettlingBlocks.{SignalsBelow}
use Rattle.comparison.proofs.blocks.Partition.by_signals.Given as goal

abbrev pub invariant-loop-i : goal.invariant-loop-i
invariant-loop-i l = SignalsBelow l.ms.first.words.now l.ms.second.words.now l.self l.i
