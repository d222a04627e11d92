-- `along` meets its contract: the walk that gathers along a chain, for any accumulator. Where the accumulator is done, the invariant closes the
-- return without an answer.
use mathlib.Core.Path.{ap}
use Rattle.sheets.specs.declared.walker.Walker.{Walker}
use Rattle.sheets.proofs.ChainWalks.{walk-starts, walk-goes, walk-ends}
use Rattle.sheets.proofs.along.along.Goals as goal

pub loop-found-init : goal.loop-found-init
loop-found-init g c =
    let w = c.args.walker in
    let e = c.into_iter-found-iterator.ensures.into_iter_gives in
    walk-starts g.G.Gathers.Takes g.G.Gathers.IsDone w.words.now w.base w.width w.left w.at c.args.so_far c.into_iter-found-iterator.result
    (ap (λ (u : Walker). u.words.now) e) (ap (λ (u : Walker). u.base) e) (ap (λ (u : Walker). u.width) e) (ap (λ (u : Walker). u.left) e) (ap (λ (u : Walker). u.at) e)

pub loop-found-preserved : goal.loop-found-preserved
loop-found-preserved g c =
    let w = c.args.walker in
    let loop = c.loop-found in
    let step = c.in-Some.ensures.steps in
    let moved = step.1.2 in
    walk-goes g.G.Gathers.Takes g.G.Gathers.IsDone w.words.now w.base w.width w.left w.at c.args.so_far loop.found-iterator c.next.new.self loop.so_far c.take-so_far.result c.in-Some.found
    loop.invariant step.0 (ap (λ (u : Walker). u.words.now) moved) (ap (λ (u : Walker). u.base) moved) (ap (λ (u : Walker). u.width) moved) c.take-so_far.ensures

pub returns : goal.returns
returns g c =
    let w = c.args.walker in
    walk-ends g.G.Gathers.Takes g.G.Gathers.IsDone w.words.now w.base w.width w.left w.at c.args.so_far c.loop-found.found-iterator c.loop-found.so_far
    c.in-None.ensures.steps.0.0 c.loop-found.invariant
