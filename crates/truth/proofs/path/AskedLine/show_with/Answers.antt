-- `show_with` meets its contract: the table of predecessors is made of that of successors.
use native.Mathlib.Omega.{arith}
use Rattle.sheets.proofs.AcceptedMachine.{nodes-sized}
use Rattle.truth.proofs.path.AskedLine.show_with.Goals as goal

pub predecessors-back-requires : goal.predecessors-back-requires
predecessors-back-requires c =
    let asked = c.args.self.now in
    omega (arith, c.nodes.ensures, (nodes-sized asked.call.machine.now asked.askable.machine).1)
