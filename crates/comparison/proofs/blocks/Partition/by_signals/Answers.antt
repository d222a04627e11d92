-- `by_signals` meets its contract. The invariant: the signals below i split no block.
use Prim.Native.Nat.{◌+◌}
use native.Mathlib.Omega.{arith}
use Rattle.comparison.proofs.SettlingBlocks.{signals-more, signals-all}
use Rattle.comparison.proofs.blocks.Partition.by_signals.Goals as goal

pub loop-i-preserved : goal.loop-i-preserved
loop-i-preserved c = signals-more _ _ _ _ _ c.loop-i.invariant c.by_signal.ensures

pub returns-2 : goal.returns-2
returns-2 c = signals-all _ _ _ (c.loop-i.i + 1) (omega (arith, c.signals-i-end.ensures)) (signals-more _ _ _ _ _ c.loop-i.invariant c.by_signal.ensures)
