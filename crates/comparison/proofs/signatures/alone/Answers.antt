-- `alone` meets its contract: one of the rows has no node, and the other at most one.
use mathlib.Core.Path.{sym, ◌∙◌}
use Rattle.truth.specs.inner.Rows.{row_has}
use Rattle.truth.proofs.rows.RowLaws.{held_in, none_passes}
use Rattle.comparison.proofs.signatures.alone.Goals as goal

pub returns-then-is_empty : goal.returns-then-is_empty
returns-then-is_empty c =
    let row = c.args.rows.first in
    let one = c.at_most_one.ensures in
    let none = none_passes (row_has row) (held_in row.low row.high) (sym c.is_empty.ensures ∙ c.if-is_empty.true) in
    λ e. record { node = one.node; first = λ s t. absurd (none s t); second = one.only e; apart = λ s t x y. none s x }

pub returns-then-is_empty-2 : goal.returns-then-is_empty-2
returns-then-is_empty-2 c =
    let row = c.args.rows.second in
    let one = c.at_most_one-then-is_empty-2.ensures in
    let none = none_passes (row_has row) (held_in row.low row.high) (sym c.is_empty-2.ensures ∙ c.if-is_empty-2.true) in
    λ e. record { node = one.node; first = one.only e; second = λ s t. absurd (none s t); apart = λ s t x y. none t y }
