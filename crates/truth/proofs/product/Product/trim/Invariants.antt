-- `trim` meets its contract. The invariant: the rows were trimmed since the first pass. The measure is what the pairs that are left or gone count.
use mathlib.Core.Bool.{Bool}
use Rattle.truth.specs.inner.Rows.{rows_has}
use Rattle.truth.specs.inner.Pairs.{weight}
use Rattle.truth.specs.inner.Trimmed.{Trimmed}
use Rattle.truth.proofs.product.Product.trim.Given as goal

abbrev pub invariant-loop : goal.invariant-loop
invariant-loop l = (b : Bool) × Trimmed l.self.moves.now.allow l.self.next.now l.self.back.now l.self.moves.now.count l.initial.pairs.kept l.initial.pairs.gone l.pairs.kept l.pairs.gone b

abbrev pub decreases-loop : goal.decreases-loop
decreases-loop l = weight l.self.moves.now.count (rows_has l.pairs.kept) (rows_has l.pairs.gone)
