-- `step_to` meets its contract: a position below the count is one of the table's, and a node of a row is in range.
use native.Mathlib.Omega.{arith}
use Rattle.truth.proofs.rows.RowLaws.{held_in}
use Rattle.truth.proofs.trail.Trace.step_to.Goals as goal

pub invariant_of-result : goal.invariant_of-result
invariant_of-result c =
    let range = held_in _ _ c.in_ok-v.v c.in_ok-v.ensures.0 in
    record { position_below = omega (arith, c.args.self.now.few); node_from = range.0; node_to = range.1 }
