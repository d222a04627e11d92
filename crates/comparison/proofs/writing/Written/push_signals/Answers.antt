-- `push_signals` meets its contract. The invariant: the signals before i are written.
use borrow.Author.Rules.{rules}
use native.Mathlib.Omega.{arith}
use Rattle.comparison.proofs.HeldLines.{signals-begun, signals-pushed, signals-written}
use Rattle.comparison.proofs.writing.Written.push_signals.Goals as goal

pub loop-i-init : goal.loop-i-init
loop-i-init c = record { high = omega arith; written = signals-begun _ c.requires.empty (search rules) }

pub loop-i-preserved : goal.loop-i-preserved
loop-i-preserved c = record { high = omega arith; written = signals-pushed _ _ _ c.loop-i.invariant.written c.push.ensures.pushed }

pub returns-2-clause-holds : goal.returns-2-clause-holds
returns-2-clause-holds c =
    signals-written _ _ _ (signals-pushed _ _ _ c.loop-i.invariant.written c.push.ensures.pushed) (omega arith)
