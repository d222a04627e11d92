-- `step` meets its contract: a wanted pair stands at some position, so that its closure finds one.
use Rattle.std.proofs.Common.{rules}
use Rattle.std.proofs.Props.{props}
use Rattle.std.proofs.Math.Logic.{∥∥₁_elim}
use Rattle.truth.specs.inner.Trails.{Wanted, NoStep}
use Rattle.truth.proofs.trail.StepSearch.{none-found}
use Rattle.truth.proofs.trail.Trace.step.Goals as goal

pub unreachable-requires : goal.unreachable-requires
unreachable-requires c =
    let a = c.args in
    let N = NoStep a.self.now.solved.now.allow a.self.now.next.now a.self.now.count a.last.position a.last.node (Wanted a.set.now a.self.now.solved.now.times a.before) in
    let none = none-found _ N c.in_default.ensures.runs (λ a r f h. search rules) (λ x q h. search rules) in
    ∥∥₁_elim c.requires (Prim.hlevel props) (λ w. none w.0 w.2.below w.1 w.2 w.3)
