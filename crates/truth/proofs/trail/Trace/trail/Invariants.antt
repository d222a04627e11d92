-- `trail` meets its contract. The invariant: the pairs so far are listed, and `last` is the last of them. The measure is how many more could be listed.
use Prim.Native.Nat.{◌-◌, ◌*◌}
use Rattle.truth.proofs.trail.TrailTables.{Listing}
use Rattle.truth.proofs.trail.Trace.trail.Given as goal

abbrev pub invariant-loop-places : goal.invariant-loop-places
invariant-loop-places l =
    ∥ Listing l.self.solved.now.allow l.self.next.now l.self.count l.self.solved.now.sets.lasting l.self.solved.now.sets.reached l.self.solved.now.times l.self.start l.nodes l.positions l.places l.len l.last.0 l.last.1.0 ∥₁

abbrev pub decreases-loop-places : goal.decreases-loop-places
decreases-loop-places l =
    l.self.nodes * l.self.count - l.len
