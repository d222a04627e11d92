-- `by_position` meets its contract: what is read of the states on the chain is the automaton by position.
use mathlib.Core.Path.{refl}
use Rattle.sheets.proofs.PositionedTables.{tabled}
use Rattle.sheets.proofs.position.by_position.Goals as goal

pub returns : goal.returns
returns c =
    let states = c.few_states-states in
    tabled c.args.r.now c.args.x _ states.result states.ensures.count states.ensures.each c.variables.ensures refl refl c.accepting_row.ensures
    (λ p q l h w. c.masks_between-masks.ensures p q w l h)
