-- `without` meets its contract: the row of the one node is taken out.
use mathlib.Core.Path.{◌∙◌}
use Rattle.truth.proofs.rows.RowSets.{but-one}
use Rattle.truth.proofs.rows.Row.without.Goals as goal

pub returns : goal.returns
returns c i =
    let a = c.args in
    let taken = rw (c.empty.ensures i) at (c.with.ensures i) in
    rw taken at (c.difference.ensures i) ∙ but-one _ _ i a.s
