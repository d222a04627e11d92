-- `label` meets its contract: the first "no" of the table refuses, and where none does, the last row answers.
use Prim.Native.Nat.{◌^◌, ◌<◌}
use native.Mathlib.Omega.{arith}
use Rattle.sheets.specs.Rules.{lent}
use Rattle.sheets.proofs.Counting.{number-most}
use Rattle.sheets.proofs.AcceptedMachine.{nodes-sized}
use Rattle.sheets.proofs.AcceptedRule.{some-line}
use Rattle.truth.specs.Sizes.{members_most, row_word_bits}
use Rattle.truth.specs.inner.Rows.{row_has}
use Rattle.truth.proofs.labelling.LabelTable.{machine-accepted, rules-accepted, space-enough}
use Rattle.truth.proofs.rows.RowLaws.{tally-number}
use Rattle.truth.proofs.labelling.LabelAnswers.{asked, refused, done}
use Rattle.std.proofs.lemmas.Result.{err_from_is_err_and}
use Rattle.truth.proofs.labelling.label.Goals as goal

pub returns-in_err-check_labelling : goal.returns-in_err-check_labelling
returns-in_err-check_labelling c =
    let p = err_from_is_err_and c.from_residual.result c.from_residual.ensures.1 in
    rw (p.1, p.2) (refused _ _ c.args.rows.now c.in_err-check_labelling.field-0.0 c.in_err-check_labelling.ensures.refusal)

pub label_lines-requires-clause-machine : goal.label_lines-requires-clause-machine
label_lines-requires-clause-machine c =
    machine-accepted _ _ _ (asked _ _ c.args.rows.now c.in_ok-check_labelling.ensures.refusal)

pub label_lines-requires-clause-rules : goal.label_lines-requires-clause-rules
label_lines-requires-clause-rules c =
    rules-accepted _ _ _ (asked _ _ c.args.rows.now c.in_ok-check_labelling.ensures.refusal)

pub label_lines-requires-clause-room : goal.label_lines-requires-clause-room
label_lines-requires-clause-room c =
    rw c.lines-l.ensures (space-enough _ _ _ (asked _ _ c.args.rows.now c.in_ok-check_labelling.ensures.refusal))

pub line_row-last-requires : goal.line_row-last-requires
line_row-last-requires c =
    let e = asked _ _ c.args.rows.now c.in_ok-check_labelling.ensures.refusal in
    let rules = rules-accepted _ _ _ e in
    let enough = space-enough _ _ _ e in
    let some = some-line lent _ rules in
    let l = c.lines-l.ensures in
    (omega arith, omega (arith, c.label_lines.ensures.size))

pub keeps-requires : goal.keeps-requires
keeps-requires c =
    let e = asked _ _ c.args.rows.now c.in_ok-check_labelling.ensures.refusal in
    (nodes-sized _ (machine-accepted _ _ _ e)).1

pub percent-requires : goal.percent-requires
percent-requires c =
    let e = asked _ _ c.args.rows.now c.in_ok-check_labelling.ensures.refusal in
    let sized = nodes-sized _ (machine-accepted _ _ _ e) in
    record { few = rw (c.count-count.ensures, tally-number members_most (row_has c.line_row-last.result)) (number-most members_most _); some = omega (arith, c.nodes.ensures) }

pub returns : goal.returns
returns c =
    let lines = c.lines-l in
    let row = c.line_row-last in
    let lo : row.result.low < 2 ^ row_word_bits = omega arith in
    let hi : row.result.high < 2 ^ row_word_bits = omega arith in
    done _ _ c.args.rows.now c.in_ok-check_labelling.ensures.refusal _ row.result.low row.result.high _ _ _ _
    (rw lines.ensures at c.label_lines.ensures) lines.ensures row.ensures.0 row.ensures.1 lo hi c.keeps.ensures
    c.count-count.ensures (rw c.nodes.ensures at c.percent.ensures)
