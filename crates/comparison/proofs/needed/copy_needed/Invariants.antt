-- `copy_needed` meets its contract. The invariant: the needed lines before i are copied.
use Prim.Native.Nat.{◌+◌, ◌≤◌}
use Rattle.comparison.proofs.CopiedLines.{Copying}
use Rattle.comparison.proofs.needed.copy_needed.Given as goal

abbrev pub invariant-loop-i : goal.invariant-loop-i
invariant-loop-i l = record { high : l.i ≤ l.j + 1; copying : Copying l.lines l.j l.same.places l.needed.places l.i l.number.places l.out }
