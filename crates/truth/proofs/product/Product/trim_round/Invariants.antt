-- `trim_round` meets its contract. The invariant: where nothing was done, the rows of what is gone below k are empty.
use Rattle.truth.proofs.trimming.TrimRounds.{Round}
use Rattle.truth.proofs.product.Product.trim_round.Given as goal

abbrev pub invariant-loop-k : goal.invariant-loop-k
invariant-loop-k l = Round l.self.moves.now.allow l.self.next.now l.self.back.now l.self.moves.now.count l.k l.initial.pairs.kept l.initial.pairs.gone l.pairs.kept l.pairs.gone l.changed
