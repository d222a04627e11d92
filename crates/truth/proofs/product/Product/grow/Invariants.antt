-- `grow` meets its contract. The invariant: turns led here from the first pairs. The measure is what is left to be met and to be taken.
use Rattle.truth.specs.inner.Growing.{left, Turns}
use Rattle.truth.proofs.product.Product.grow.Given as goal

abbrev pub invariant-loop-pairs : goal.invariant-loop-pairs
invariant-loop-pairs l = Turns l.self.moves.now.allow l.self.back.now l.self.moves.now.count 1 l.pairs.time l.initial.pairs.reached l.initial.pairs.fresh l.initial.times l.pairs.reached l.pairs.fresh l.times

abbrev pub decreases-loop-pairs : goal.decreases-loop-pairs
decreases-loop-pairs l = left l.self.moves.now.count l.pairs.reached l.pairs.fresh
