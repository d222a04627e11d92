-- `valuation_table` meets its contract. The invariant: the rows below w have the nodes of their valuations.
use mathlib.Core.Path.{◌≡◌}
use Prim.Native.Nat.{ℕ, ◌≤◌}
use mathlib.Core.List.{List}
use mathlib.Core.Bool.{Bool, ◌&&◌}
use Rattle.truth.specs.Sizes.{set_words}
use Rattle.truth.specs.inner.Rows.{row_has}
use Rattle.truth.specs.inner.Pairs.{NoRow}
use Rattle.truth.specs.inner.Product.{agrees, line_at, argument_at}
use Rattle.truth.specs.declared.rows.Row.{Row}
use Rattle.truth.proofs.tables.TableLaws.{Filled}
use Rattle.truth.proofs.product.Variables.valuation_table.Given as goal

-- whether node s has the valuation w
abbrev pub Valued : List ℕ → Row → List ℕ → ℕ → ℕ → ℕ → Bool → Type 0
Valued rows all lines v w s b = b ≡ (row_has all s && agrees v w (argument_at rows (line_at lines) s))

abbrev pub invariant-loop-w : goal.invariant-loop-w
invariant-loop-w l = Filled set_words (Valued l.self.rows.now l.self.nodes l.self.lines l.self.count) l.w l.out × ((i : ℕ) → l.w ≤ i → NoRow l.out i)
