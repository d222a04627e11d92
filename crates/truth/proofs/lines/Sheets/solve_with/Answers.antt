-- `solve_with` meets its contract: the tables are those of the line.
use mathlib.Core.Path.{◌∙◌}
use native.Mathlib.Omega.{arith}
use Rattle.truth.specs.inner.Product.{line_at}
use Rattle.truth.proofs.lines.PathRows.{solved-line}
use Rattle.truth.proofs.lines.Sheets.solve_with.Goals as goal

pub returns : goal.returns
returns c A t name is =
    let a = c.args in
    let sheets = a.self.now in
    let few = c.requires.count in
    let count = c.set_masks.ensures.count ∙ few in
    solved-line sheets.machine.now A t sheets.next.now a.rows.now (line_at a.lines) a.exchanged sheets.back.now sheets.ready.predecessors _ is.count
    _ c.nodes.ensures _ _ _ _ _
    (rw few at (c.set_masks.ensures.allowed A is.variables (λ p q w l h. is.goes p q w (omega (arith, l, is.count, few)) (omega (arith, h, is.count, few)))))
    (c.good_table-goods.ensures A (λ p l. is.accepting p (omega (arith, l, is.count))))
    (rw count at c.trim-lasting.ensures) (rw count at c.grow-reached.ensures)
