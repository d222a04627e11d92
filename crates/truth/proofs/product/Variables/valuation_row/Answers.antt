-- `valuation_row` meets its contract. The invariant: the row has the nodes at which the first i lines agree with w.
use mathlib.Core.Path.{refl, sym, ◌∙◌}
use Rattle.truth.specs.inner.Rows.{row_has}
use Rattle.truth.specs.inner.Product.{line_at, argument_at}
use Rattle.truth.proofs.tables.TableLaws.{loaded}
use Rattle.truth.proofs.product.ValuationRows.{agrees-none, agrees-yes, agrees-no}
use Rattle.truth.proofs.product.Variables.valuation_row.Goals as goal
use Rattle.truth.proofs.product.Variables.valuation_row.Goals.{then-bit, else-bit}

pub loop-i-init : goal.loop-i-init
loop-i-init c =
    let a = c.args in
    λ s. agrees-none a.w (argument_at a.self.now.rows.now (line_at a.self.now.lines) s) _

pub loop-i-preserved : goal.loop-i-preserved
loop-i-preserved c s =
    let a = c.args in
    let at = c.loop-i in
    let variables = a.self.now in
    let row = loaded variables.rows.now c.line_row-row.result _ _ s c.line_row-row.ensures refl in
    let truth = argument_at variables.rows.now (line_at variables.lines) s in
    elim c.if-bit.branch [
      | then-bit w ↦ rw w.out-is (w.intersection-out.ensures s ∙ rw row (agrees-yes a.w truth (row_has variables.nodes s) at.i _ (at.invariant s) (sym c.bit.ensures ∙ w.if-bit.true)))
      | else-bit w ↦ rw w.out-is (w.difference-out.ensures s ∙ rw row (agrees-no a.w truth (row_has variables.nodes s) at.i _ (at.invariant s) (sym c.bit.ensures ∙ w.if-bit.false)))
    ]
