-- The invariant of `along`: the walk along the chain that the walker was made for.
use Rattle.sheets.proofs.ChainWalks.{Walking}
use Rattle.sheets.proofs.along.along.Given as goal

abbrev pub invariant-loop-found : goal.invariant-loop-found
invariant-loop-found g l =
    let w = l.fn.walker in
    Walking g.G.Gathers.Takes g.G.Gathers.IsDone w.words.now w.base w.width w.left w.at l.initial.so_far l.found-iterator l.so_far
