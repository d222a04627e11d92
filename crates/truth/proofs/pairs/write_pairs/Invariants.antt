-- The invariant of `write_pairs`: the first nodes and states are stored in the list, as pairs, and the others are to come.
use Rattle.std.proofs.Common.{◌≡◌, ◌≤◌, length, drop}
use Rattle.truth.proofs.pairs.FilledPairs.{filled}
use Rattle.truth.proofs.pairs.write_pairs.Given as goal

abbrev pub invariant-loop-i : goal.invariant-loop-i
invariant-loop-i l = record {
  few : l.i-iterator.count ≤ length l.nodes;
  nodes_left : l.i-iterator.iter.a.rest.now ≡ drop l.i-iterator.count l.nodes;
  states_left : l.i-iterator.iter.b.rest.now ≡ drop l.i-iterator.count l.states;
  stored : l.list ≡ filled l.i-iterator.count l.nodes l.states l.initial.list;
}
