-- `set_masks` meets its contract. The invariants: the rows from the positions below p, and those from p to positions below k, are made, and every
-- row has nodes of the valuations' rows alone.
use mathlib.Core.Path.{◌≡◌, ◌∙◌}
use native.Mathlib.Omega.{arith}
use Rattle.truth.specs.inner.Rows.{row_has}
use Rattle.truth.specs.inner.Product.{line_at}
use Rattle.truth.proofs.product.AllowedTables.{built-more, built-allowed}
use Rattle.truth.proofs.product.Moves.set_masks.Goals as goal

pub loop-k-preserved : goal.loop-k-preserved
loop-k-preserved c =
    let a = c.args in
    let l = c.loop-k in
    let one = c.set_mask.ensures in
    let table = c.valuation_table-table in record {
      count = one.count ∙ l.invariant.count;
      built = built-more a.masks.now table.result a.variables.now.count a.self.now.count c.loop-p.p l.k l.self.allow l.invariant.built _ l.self.into l.self.onto _ _ table.ensures.empty one.set;
    }

pub returns-clause-allowed : goal.returns-clause-allowed
returns-clause-allowed c =
    let a = c.args in
    let variables = a.variables.now in
    let table = c.valuation_table-table in
    let e : c.loop-p.p ≡ a.self.now.count = omega arith in
    built-allowed a.masks.now table.result variables.rows.now (line_at variables.lines) (row_has variables.nodes) variables.count a.self.now.count _ a.self.now.few
    table.ensures.valued (rw e at c.loop-p.invariant.built)
