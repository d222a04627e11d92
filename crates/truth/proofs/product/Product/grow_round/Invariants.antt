-- `grow_round` meets its contract. The invariant: turns led here, and where there was none the positions passed have nothing new.
use mathlib.Core.Path.{◌≡◌}
use Rattle.truth.specs.inner.Pairs.{NoRows}
use Rattle.truth.specs.inner.Growing.{Turns}
use Rattle.truth.proofs.product.Product.grow_round.Given as goal

abbrev pub invariant-loop-k : goal.invariant-loop-k
invariant-loop-k l = record {
  turns : Turns l.self.moves.now.allow l.self.back.now l.self.moves.now.count l.initial.pairs.time l.pairs.time l.initial.pairs.reached l.initial.pairs.fresh l.initial.times l.pairs.reached l.pairs.fresh l.times;
  done : l.pairs.time ≡ l.initial.pairs.time → NoRows l.k l.pairs.fresh;
}
