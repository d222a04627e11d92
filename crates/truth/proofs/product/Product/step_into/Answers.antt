-- `step_into` meets its contract: where p may go to k, it answers whether the rows meet.
use Rattle.truth.proofs.trimming.TrimSteps.{meeting-is}
use Rattle.truth.proofs.product.Product.step_into.Goals as goal

pub returns-then-has : goal.returns-then-has
returns-then-has c =
    let a = c.args in
    let may = c.load-may.ensures in
    let there = c.load.ensures in
    meeting-is a.self.now.moves.now.allow a.xs.now a.to.low a.to.high a.p a.s a.k _ _ _ may.0 may.1 c.has.ensures _ _ _ there.0 there.1 c.meets.ensures c.if-has.true
