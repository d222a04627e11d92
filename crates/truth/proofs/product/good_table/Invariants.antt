-- `good_table` meets its contract. The invariant: the rows below p are those of their positions.
use mathlib.Core.Path.{◌≡◌}
use Prim.Native.Nat.{ℕ}
use mathlib.Core.Bool.{Bool, ◌&&◌}
use Rattle.sheets.specs.Words.{bit}
use Rattle.truth.specs.Sizes.{set_words}
use Rattle.truth.specs.inner.Rows.{row_has}
use Rattle.truth.specs.inner.Product.{turned}
use Rattle.truth.specs.declared.rows.Row.{Row}
use Rattle.truth.proofs.tables.TableLaws.{Filled}
use Rattle.truth.proofs.product.good_table.Given as goal

-- whether node s is in the row of position p
abbrev pub Has : Row → ℕ → Bool → ℕ → ℕ → Bool → Type 0
Has all accepting exchanged p s b = b ≡ (row_has all s && turned exchanged (bit accepting p))

abbrev pub invariant-loop-p : goal.invariant-loop-p
invariant-loop-p l = Filled set_words (Has l.all l.accepting l.exchanged) l.p l.out
