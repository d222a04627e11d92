-- `steps_on` meets its contract: a step to p2, or one to any position.
use Prim.Native.Nat.{}
use Rattle.truth.proofs.trimming.TrimSteps.{meets-onward}
use Rattle.truth.proofs.product.Product.steps_on.Goals as goal

pub returns-then-meets : goal.returns-then-meets
returns-then-meets c =
    let a = c.args in
    let pre = c.requires in
    let to = c.load-to.ensures in
    let there = c.load-there.ensures in
    let on = meets-onward a.self.now.moves.now.allow a.self.now.next.now a.xs.now a.self.now.moves.now.count a.p a.s _ _ to.0 to.1 a.p2 _ _ _ pre.next pre.allowed there.0 there.1 c.meets.ensures c.if-meets.true in
    (λ _. on, λ _. tt)
