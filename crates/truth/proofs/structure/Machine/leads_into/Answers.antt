-- `leads_into` meets its contract: a node leads into a row where its successors meet it.
use mathlib.Core.Path.{◌∙◌}
use Rattle.truth.proofs.structure.TargetRows.{meets-leads}
use Rattle.truth.proofs.structure.Machine.leads_into.Goals as goal

pub returns : goal.returns
returns c =
    let a = c.args in
    c.meets.ensures ∙ meets-leads a.self.now.words.now a.s _ a.row c.successor_row.ensures
