-- `valuation_row` meets its contract. The invariant: the row has the nodes at which the first i lines agree with w.
use mathlib.Core.Path.{◌≡◌}
use Prim.Native.Nat.{ℕ}
use mathlib.Core.Bool.{◌&&◌}
use Rattle.truth.specs.inner.Rows.{row_has}
use Rattle.truth.specs.inner.Product.{agrees, line_at, argument_at}
use Rattle.truth.proofs.product.Variables.valuation_row.Given as goal

abbrev pub invariant-loop-i : goal.invariant-loop-i
invariant-loop-i l = (s : ℕ) → row_has l.out s ≡ (row_has l.initial.out s && agrees l.i l.w (argument_at l.rows (line_at l.self.lines) s))
