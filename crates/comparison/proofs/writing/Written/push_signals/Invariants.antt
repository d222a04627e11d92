-- `push_signals` meets its contract. The invariant: the signals before i are written.
use Prim.Native.Nat.{◌+◌, ◌≤◌}
use Rattle.comparison.proofs.HeldLines.{SignalsWritten}
use Rattle.comparison.proofs.writing.Written.push_signals.Given as goal

abbrev pub invariant-loop-i : goal.invariant-loop-i
invariant-loop-i l = record { high : l.i ≤ l.a + 1; written : SignalsWritten l.self l.i }
