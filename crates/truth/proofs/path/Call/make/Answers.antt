-- `make` meets its contract: the first "no" of the table refuses; where none does, the asked line is shown by the rows of the lines above it.
use mathlib.Core.Path.{sym, ◌∙◌}
use native.Mathlib.Omega.{arith}
use Rattle.sheets.proofs.OperationNumbers.{some-path-not}
use Rattle.truth.proofs.path.PathMade.{passed, rows_fit, refused, machine-accepted, rules-accepted, line-in, askable, shown}
use Rattle.truth.proofs.path.Call.make.Goals as goal

pub returns-in-Err : goal.returns-in-Err
returns-in-Err c = refused _ _ _ _ _ c.in-Err.refusal _ _ c.in-Err.ensures.refusal

pub overflow_sub-j : goal.overflow_sub-j
overflow_sub-j c = (line-in _ _ _ _ _ (passed c.check_path.ensures c.in_default.not-Err) _ c.asked-j.ensures).0

pub label_lines-requires : goal.label_lines-requires
label_lines-requires c =
    let none = passed c.check_path.ensures c.in_default.not-Err in
    let accepted = rules-accepted _ _ _ _ _ none in
    let l = line-in _ _ _ _ _ none _ c.asked-j.ensures in
    let fit = rows_fit _ accepted in
    record { machine = machine-accepted _ _ _ _ _ none; rules = accepted; lines = omega (arith, l); room = omega (arith, l, fit) }

pub invariant_of-asked : goal.invariant_of-asked
invariant_of-asked c = record {
  askable = askable _ _ _ _ _ (passed c.check_path.ensures c.in_default.not-Err) _ c.asked-j.ensures _ _ c.label_lines.ensures _ c.path_line-line.ensures _
      (sym (some-path-not _ _ c.read_operation.ensures) ∙ sym c.eq-exchanged.ensures) c.label_lines.ensures.size;
}

pub returns : goal.returns
returns c =
    shown _ _ _ _ _ (passed c.check_path.ensures c.in_default.not-Err) _ c.asked-j.ensures _ _ c.label_lines.ensures _ c.path_line-line.ensures _
    (sym (some-path-not _ _ c.read_operation.ensures) ∙ sym c.eq-exchanged.ensures) _ _ _ c.show_line.ensures
