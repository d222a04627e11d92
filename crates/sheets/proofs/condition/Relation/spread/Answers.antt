-- `spread` meets its contract: the row of one member more.
use mathlib.Core.Path.{ap, ◌∙◌}
use mathlib.Core.Bool.{◌||◌}
use Rattle.sheets.specs.Words.{bit}
use Rattle.sheets.specs.inner.Positions.{in_row}
use Rattle.sheets.proofs.Positions.{joined-none, joined-next}
use Rattle.sheets.proofs.condition.Relation.spread.Goals as goal

pub loop-j-init : goal.loop-j-init
loop-j-init c i = let set = c.args.set.bits in joined-none (bit set) (λ j. in_row c.args.self.now.rows j i) (bit set i)

pub loop-j-preserved : goal.loop-j-preserved
loop-j-preserved c i =
    let at = c.loop-j in
    let set = c.args.set.bits in
    let rows = c.args.self.now.rows in
    joined-next (bit set) (λ j. in_row rows j i) (bit set i) at.j _ _ (at.invariant i)
    (c.union-out.ensures i ∙ ap (λ b. bit at.out.bits i || b) (c.only_if.ensures i ∙ rw (c.contains.ensures, c.led_from.ensures i)))
