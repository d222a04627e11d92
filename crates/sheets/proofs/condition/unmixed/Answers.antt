-- `unmixed` meets its contract: the question by positions is the question.
use mathlib.Core.Path.{◌≡◌, ap, ◌∙◌}
use mathlib.Core.Bool.{not, ◌&&◌}
use lib.ListN.{get_or}
use lib.Dec.{ltb}
use Rattle.sheets.specs.Rules.{states_of, leads, accepting}
use Rattle.sheets.proofs.ReachedPositions.{unmixed-is}
use Rattle.sheets.proofs.condition.unmixed.Goals as goal

pub returns : goal.returns
returns c =
    let R = c.args.r.now in
    let all = states_of R c.args.x in
    let states = c.few_states-states in
    let may = c.leads_rows-may in
    let reach = c.reached-reach in
    let n = reach.result.count in
    let at = states.ensures.each in
    let same : n ≡ states.result.count = reach.ensures.count ∙ may.ensures.count in
    ap not c.mixed.ensures
    ∙ unmixed-is R all n c.accepting_row.result.bits may.result.rows reach.result.rows (same ∙ states.ensures.count)
    (λ j i l. rw (← same) at (may.ensures.rows j i (rw same at l)) ∙ ap (λ p. ltb i n && leads R p (get_or states.result.numbers i 0)) (at j) ∙ ap (λ q. ltb i n && leads R (get_or all j 0) q) (at i))
    (λ j i l. rw (← reach.ensures.count) at (reach.ensures.rows j i (rw reach.ensures.count at l)))
    (λ i. rw (← same) at (c.accepting_row.ensures i) ∙ ap (λ q. ltb i n && accepting R q) (at i))
