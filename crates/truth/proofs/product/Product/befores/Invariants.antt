-- `befores` meets its contract. The invariant: the rows below k have what is before theirs.
use mathlib.Core.Logic.{◌↔◌}
use lib.Dec.{T}
use Rattle.truth.specs.Sizes.{set_words}
use Rattle.truth.specs.inner.Rows.{rows_has}
use Rattle.truth.specs.inner.Pairs.{Before}
use Rattle.truth.proofs.tables.TableLaws.{Filled}
use Rattle.truth.proofs.product.Product.befores.Given as goal

abbrev pub invariant-loop-k : goal.invariant-loop-k
invariant-loop-k l = Filled set_words (λ j s b. T b ↔ Before l.self.back.now (rows_has l.xs j) s) l.k l.out
