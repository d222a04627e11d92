-- The invariant of `write_nodes`: the first i nodes are written over those of the list, and the rest is as it was.
use Rattle.std.proofs.Common.{◌≡◌, ◌++◌, take, drop}
use Rattle.truth.proofs.path.write_nodes.Given as goal

abbrev pub invariant-loop-i : goal.invariant-loop-i
invariant-loop-i l = l.list ≡ take l.i l.from ++ drop l.i l.initial.list
