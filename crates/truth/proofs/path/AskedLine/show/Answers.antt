-- `show` meets its contract: the solved line's row says whether there is a path; where there is, the solved tables can be traced, and the
-- trail, its positions named, is the list.
use borrow.Author.Rules.{rules}
use mathlib.Core.Path.{◌≡◌, sym}
use native.Mathlib.Omega.{arith}
use lib.ListN.{length}
use Rattle.truth.specs.Sizes.{pairs_most}
use Rattle.truth.specs.inner.Pairs.{Timed}
use Rattle.truth.proofs.lines.PathRows.{states-few, solvable}
use Rattle.truth.proofs.path.ShownLines.{path-ready, none-shown, traceable, taken-fits, shows-named}
use Rattle.truth.proofs.path.AskedLine.show.Goals as goal

pub by_position-a-requires : goal.by_position-a-requires
by_position-a-requires c = states-few (path-ready c.args.self.now.askable c.requires)

pub solve-solved-requires : goal.solve-solved-requires
solve-solved-requires c =
    solvable (path-ready c.args.self.now.askable c.requires) c.by_position-a.result c.by_position-a.ensures

pub returns-then-not-has : goal.returns-then-not-has
returns-then-not-has c =
    none-shown c.args.self.now.askable c.requires (c.solve-solved.ensures _ _ _ c.by_position-a.ensures) c.load-row.ensures c.has.ensures c.if-not-has.true _ _

pub invariant_of-trace : goal.invariant_of-trace
invariant_of-trace c =
    let states = c.by_position-a.ensures in
    let long : length c.solve-solved.result.times ≡ pairs_most = search rules in
    let timed : Timed c.solve-solved.result.times = omega arith in
    let traced = traceable c.args.self.now.askable c.requires (c.solve-solved.ensures _ _ _ states) c.load-row.ensures c.has.ensures c.if-not-has.false states.count c.nodes.ensures timed in
    record { few = traced.few; traceable = ∣ traced ∣₁ }

pub slice_bounds-states-end : goal.slice_bounds-states-end
slice_bounds-states-end c =
    let states = c.by_position-a.ensures in
    let found = c.trail-found in
    (taken-fits c.args.self.now.askable c.requires (c.solve-solved.ensures _ _ _ states) c.load-row.ensures c.has.ensures c.if-not-has.false states.count c.nodes.ensures
    found.result.nodes found.result.positions found.ensures (search rules)).0

pub slice_bounds-name_states-end : goal.slice_bounds-name_states-end
slice_bounds-name_states-end c =
    let states = c.by_position-a.ensures in
    let found = c.trail-found in
    sym (taken-fits c.args.self.now.askable c.requires (c.solve-solved.ensures _ _ _ states) c.load-row.ensures c.has.ensures c.if-not-has.false states.count c.nodes.ensures
    found.result.nodes found.result.positions found.ensures (search rules)).1.0

pub name_states-requires : goal.name_states-requires
name_states-requires c =
    let states = c.by_position-a.ensures in
    let found = c.trail-found in
    (taken-fits c.args.self.now.askable c.requires (c.solve-solved.ensures _ _ _ states) c.load-row.ensures c.has.ensures c.if-not-has.false states.count c.nodes.ensures
    found.result.nodes found.result.positions found.ensures (search rules)).1.1

pub returns : goal.returns
returns c =
    let states = c.by_position-a.ensures in
    let found = c.trail-found in
    let named = c.name_states in
    shows-named c.args.self.now.askable c.requires (c.solve-solved.ensures _ _ _ states) c.load-row.ensures c.has.ensures c.if-not-has.false states.count c.nodes.ensures
    found.result.nodes found.result.positions found.ensures (search rules) c.by_position-a.result.numbers named.new.list named.auto.list named.ensures states.numbers
