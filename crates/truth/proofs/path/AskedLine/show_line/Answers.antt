-- `show_line` meets its contract: the table of successors is made first.
use native.Mathlib.Omega.{arith}
use Rattle.sheets.proofs.AcceptedMachine.{nodes-sized}
use Rattle.truth.proofs.path.AskedLine.show_line.Goals as goal

pub show_with-requires : goal.show_with-requires
show_with-requires c =
    let asked = c.args.self.now in
    λ s u lo hi. c.successors-next.ensures s u lo hi (omega (arith, (nodes-sized asked.call.machine.now asked.askable.machine).1))
