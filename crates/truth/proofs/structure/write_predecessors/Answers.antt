-- `write_predecessors` meets its contract: each turn adds one node to the rows of its successors.
use mathlib.Core.Path.{refl}
use Rattle.truth.proofs.structure.EdgesAdded.{earlier-none}
use Rattle.truth.proofs.structure.write_predecessors.Goals as goal

pub loop-s-init : goal.loop-s-init
loop-s-init c = (refl, earlier-none c.args.next.now)
