-- A loop `for u in row.members()`: a row with no node, and what is left after one is taken.
use mathlib.Core.Path.{◌≡◌}
use Prim.Native.Nat.{ℕ, ◌<◌}
use Rattle.truth.specs.Sizes.{members_most}
use Rattle.truth.specs.declared.rows.Row.{Row}
use Rattle.truth.specs.inner.Rows.{tally, row_has, Leading, NoNode}
use Rattle.truth.proofs.rows.RowLaws.{held_none, tally-number}
use Rattle.truth.proofs.rows.RowWalks.{Less, less-falls}

pub no_node : (r : Row) → r.low ≡ 0 → r.high ≡ 0 → NoNode r
no_node r e f s t = rw (e, f, held_none s) at t

-- a row without one of its nodes has fewer
pub taken-fewer : {before : ℕ → ℕ → Type 0} (r t : Row) (u : ℕ) → Leading before r u → Less (row_has r) u (row_has t) → tally members_most (row_has t) < tally members_most (row_has r)
taken-fewer r t u l less =
    rw (tally-number members_most (row_has t), tally-number members_most (row_has r)) (less-falls (row_has r) (row_has t) u less l.from l.to l.is_in)
