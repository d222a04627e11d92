-- `without_tail` meets its contract: no chain goes on from record 0.
use Rattle.truth.proofs.structure.TargetRows.{no-tail-of}
use Rattle.truth.proofs.structure.Machine.without_tail.Goals as goal

pub invariant_of-result : goal.invariant_of-result
invariant_of-result c = record { shared = no-tail-of _ _ c.no_tail.ensures.at c.no_tail.ensures.none }
