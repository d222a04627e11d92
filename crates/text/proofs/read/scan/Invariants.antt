-- `scan` meets its contract. The loop's invariant: the reader has passed so many bytes.
use Prim.Native.Nat.{ℕ}
use mathlib.Core.List.{List}
use Rattle.text.proofs.Passing.{Passed}
use Rattle.text.proofs.read.scan.Given as goal

abbrev pub invariant-loop-byte : goal.invariant-loop-byte
invariant-loop-byte l = (ws : List ℕ) × Passed l.room l.text l.byte-index l.reader ws
