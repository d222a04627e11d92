-- `bytes_of` meets its contract. The loop's invariant: the bytes of i words stand at the head of the list as it was.
use mathlib.Core.Path.{◌≡◌}
use Prim.Native.Nat.{◌*◌}
use mathlib.Core.List.{◌++◌}
use lib.ListN.{take, drop}
use Rattle.input.specs.Bytes.{bytes_of}
use Rattle.input.proofs.bytes.bytes_of.Given as goal

abbrev pub invariant-loop-i : goal.invariant-loop-i
invariant-loop-i l = l.bytes ≡ take (2 * l.i) (bytes_of l.words) ++ drop (2 * l.i) l.initial.bytes
