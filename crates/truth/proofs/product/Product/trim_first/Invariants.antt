-- `trim_first` meets its contract. The invariant: the rows below p have lost what has nothing ahead.
use Rattle.truth.specs.inner.Trimmed.{Started}
use Rattle.truth.proofs.product.Product.trim_first.Given as goal

abbrev pub invariant-loop-p : goal.invariant-loop-p
invariant-loop-p l = Started l.self.moves.now.allow l.self.back.now l.self.moves.now.count l.p l.initial.pairs.kept l.pairs.kept l.pairs.gone
