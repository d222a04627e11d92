-- `grow` meets its contract. The invariant: turns led here from the first pairs. The measure is what is left to be met and to be taken.
use native.Mathlib.Omega.{arith}
use mathlib.Core.Bool.{not}
use Rattle.truth.specs.inner.Rows.{rows_has}
use Rattle.truth.proofs.PairWeights.{weight-most}
use Rattle.truth.proofs.growth.GrowthRounds.{turns_more, growing-first, growing-last}
use Rattle.truth.proofs.product.Product.grow.Goals as goal

pub grow_round-requires : goal.grow_round-requires
grow_round-requires c =
    let a = c.args in
    let g = c.loop-pairs.invariant in
    let most = weight-most a.self.now.moves.now.count (λ p s. not (rows_has a.xs p s)) (rows_has a.xs) (omega arith) in
    omega (arith, g.fewer, most)

pub returns-then-pairs-time : goal.returns-then-pairs-time
returns-then-pairs-time c n next transposed up_to within =
    let a = c.args in
    let g = turns_more c.loop-pairs.invariant c.grow_round.ensures.turns in
    growing-last (g.grows n next a.xs transposed up_to (growing-first _ c.requires within)) (c.grow_round.ensures.done c.if-pairs-time.true)

pub loop-pairs-preserved : goal.loop-pairs-preserved
loop-pairs-preserved c = turns_more c.loop-pairs.invariant c.grow_round.ensures.turns
