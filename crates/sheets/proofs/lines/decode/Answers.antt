-- `decode` meets its contract: question 15 of the line's operation, and the line that it makes of the words.
use mathlib.Core.Path.{refl, sym, ◌∙◌}
use Rattle.sheets.specs.inner.Lines.{decoded_as}
use Rattle.sheets.proofs.DecodedLines.{decoded-none, decoded-some}
use Rattle.sheets.proofs.lines.decode.Goals as goal

pub returns-in_err-operation : goal.returns-in_err-operation
returns-in_err-operation c =
    let made = c.new-record.ensures in
    c.from_residual.ensures ∙ decoded-none _ _ _ (rw (made.sheet, made.number) at c.operation.ensures) (sym c.ok.ensures.value ∙ c.in_err-operation.was)

pub returns-then-operands_fit : goal.returns-then-operands_fit
unfolding decoded_as
returns-then-operands_fit c =
    let made = c.new-record.ensures in
    rw (← decoded-some _ _ _ (rw (made.sheet, made.number) at c.operation.ensures) _ (sym c.ok.ensures.value ∙ c.in_ok-operation.was), ← made.sheet, ← made.number, ← c.if-operands_fit.ensures) c.line.ensures

pub returns-else-operands_fit : goal.returns-else-operands_fit
unfolding decoded_as
returns-else-operands_fit c =
    let made = c.new-record.ensures in
    rw (← decoded-some _ _ _ (rw (made.sheet, made.number) at c.operation.ensures) _ (sym c.ok.ensures.value ∙ c.in_ok-operation.was), ← made.sheet, ← made.number, ← c.if-operands_fit.ensures) refl
