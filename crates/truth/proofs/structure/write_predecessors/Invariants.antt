-- `write_predecessors` meets its contract. The invariant: the nodes 1 to s are in the rows of their successors.
use mathlib.Core.Path.{◌≡◌}
use lib.ListN.{length}
use Rattle.truth.specs.Sizes.{table_words}
use Rattle.truth.proofs.structure.EdgesAdded.{Earlier}
use Rattle.truth.proofs.structure.write_predecessors.Given as goal

abbrev pub invariant-loop-s : goal.invariant-loop-s
invariant-loop-s l = (length l.out ≡ table_words) × Earlier l.next l.s l.out
