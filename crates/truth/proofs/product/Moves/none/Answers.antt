-- `none` meets its contract: no row of an empty table has a node.
use mathlib.Core.Path.{refl}
use native.Mathlib.Omega.{arith}
use Rattle.truth.specs.Sizes.{table_words, cell, set_words}
use Rattle.truth.proofs.tables.TableLaws.{zero_row}
use Rattle.truth.proofs.tables.LinkedSets.{linked-none}
use Rattle.truth.proofs.product.Moves.none.Goals as goal

pub invariant_of-result : goal.invariant_of-result
invariant_of-result c = record {
  few = omega (arith, c.requires);
  enters = linked-none (λ k q. cell q k) _ _ _ refl (λ p s x. rw (zero_row table_words p s) at x) (λ p s x. rw (zero_row set_words p s) at x);
  leaves = linked-none cell _ _ _ refl (λ p s x. rw (zero_row table_words p s) at x) (λ p s x. rw (zero_row set_words p s) at x);
}

pub returns-clause-none : goal.returns-clause-none
returns-clause-none c p s x = rw (zero_row table_words p s) at x
