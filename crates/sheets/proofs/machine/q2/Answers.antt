-- `q2` meets its contract.
use Rattle.sheets.specs.MachineForms.{q2}
use Rattle.sheets.proofs.machine.q2.Goals as goal

pub returns : goal.returns
unfolding q2
returns c = rw (← c.nodes.ensures, ← c.edges.ensures, ← c.machine_length.ensures)
