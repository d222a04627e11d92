-- `reached_from` meets its contract: one round more; where a round adds nothing, neither do those left.
use mathlib.Core.Path.{◌≡◌, sym, ap, ◌∙◌}
use Prim.Native.Nat.{ℕ, ◌+◌, ◌-◌}
use native.Mathlib.Omega.{arith}
use Rattle.std.proofs.lemmas.Bool.{eqb-true}
use Rattle.sheets.specs.Words.{bit}
use Rattle.sheets.specs.inner.Positions.{in_row}
use Rattle.sheets.proofs.ReachedPositions.{reach-first, reach-round, reach-stays}
use Rattle.sheets.proofs.condition.Relation.reached_from.Goals as goal

pub loop-init : goal.loop-init
loop-init c i = let s = c.args.self.now in c.led_from-out.ensures i ∙ sym (reach-first (in_row s.rows) s.count c.args.p i)

pub returns-then-eq : goal.returns-then-eq
returns-then-eq c =
    let at = c.loop in
    let s = c.args.self.now in
    let e : at.counter + (s.count - at.counter) ≡ s.count = omega arith in
    rw e at
    (reach-stays (in_row s.rows) s.count c.args.p at.counter (bit at.out.bits) at.invariant
    (λ i. sym (c.spread-more.ensures i) ∙ ap (λ (z : ℕ). bit z i) (eqb-true _ _ (sym c.eq.ensures ∙ c.if-eq.true))) (s.count - at.counter))

pub loop-preserved : goal.loop-preserved
loop-preserved c i =
    let at = c.loop in
    let s = c.args.self.now in
    c.spread-more.ensures i ∙ reach-round (in_row s.rows) s.count c.args.p at.counter (bit at.out.bits) at.invariant i
