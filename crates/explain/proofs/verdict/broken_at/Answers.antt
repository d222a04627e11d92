-- `broken_at` meets its contract: labelling accepts both sheets, so the last row has the truth of the rule.
use mathlib.Core.Path.{sym}
use Rattle.explain.specs.Verdicts.{Labelable}
use Rattle.truth.proofs.breaks.BreakNodes.{last-in, first-break}
use Rattle.explain.proofs.verdict.broken_at.Goals as goal

pub line_row-last-requires : goal.line_row-last-requires
unfolding Labelable
line_row-last-requires c =
    let labelled = c.label in
    let none = sym c.requires in
    rw c.lines.ensures (last-in _ _ _ labelled.new.rows labelled.result labelled.ensures none)

pub returns : goal.returns
unfolding Labelable
returns c =
    let labelled = c.label in
    let none = sym c.requires in
    let row = c.line_row-last in
    let lo = rw c.lines.ensures at row.ensures.0 in
    let hi = rw c.lines.ensures at row.ensures.1 in
    let node = c.first_break in
    let after = labelled.new.rows in
    first-break _ _ _ after labelled.result labelled.ensures none row.result.low row.result.high node.result lo hi node.ensures
