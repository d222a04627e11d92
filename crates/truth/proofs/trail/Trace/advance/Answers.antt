-- `advance` meets its contract: a pair of the lasting set has a step into it, and any other pair of `ys` one to an earlier time.
use Rattle.std.proofs.Props.{props}
use mathlib.Core.Path.{◌≡◌, refl, sym, ◌∙◌}
use Rattle.std.proofs.Math.Logic.{∥∥₁_map}
use Rattle.truth.specs.inner.Rows.{rows_has}
use Rattle.truth.proofs.tables.TableLaws.{loaded}
use Rattle.truth.proofs.trail.TrailTables.{told}
use Rattle.truth.proofs.trail.TrailTurns.{goes-onward, goes-sooner, advances-onward}
use Rattle.truth.proofs.trail.Trace.advance.Goals as goal
use Rattle.truth.proofs.trail.Trace.advance.Goals.{After-has}

-- whether the pair is in the lasting set
lasts : (c : After-has) → rows_has c.args.self.now.solved.now.sets.lasting c.args.last.position c.args.last.node ≡ c.has.result
lasts c =
    let a = c.args in
    let xs = a.self.now.solved.now.sets.lasting in
    sym (loaded xs c.load.result a.last.position a.last.position a.last.node c.load.ensures refl) ∙ sym c.has.ensures

pub step-requires : goal.step-requires
step-requires c =
    let has = lasts (goal.at.step-requires c).After-has ∙ c.if-has.true in
    ∥∥₁_map c.args.self.now.traceable (λ w. let o = goes-onward w _ _ c.requires.position has in (o.0, o.1, o.2, (o.3, tt)))

pub returns-then-has : goal.returns-then-has
returns-then-has c =
    let has = lasts (goal.at.returns-then-has c).After-has ∙ c.if-has.true in
    told (Prim.hlevel props) c.args.self.now.traceable (λ w. advances-onward w _ _ c.requires.position _ _ c.step.ensures.stepped has c.step.ensures.wanted.0)

pub step-requires-2 : goal.step-requires-2
step-requires-2 c =
    let has = lasts (goal.at.step-requires-2 c).After-has ∙ c.if-has.false in
    ∥∥₁_map c.args.self.now.traceable (λ w. let o = goes-sooner w _ _ c.requires.position has c.requires.reached in (o.0, o.1, o.2, (o.3, rw c.pair_place.ensures o.4)))
