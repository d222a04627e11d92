-- `automaton_total` meets its contract: what is gathered along the chain of states, from no state.
use mathlib.Core.Path.{refl}
use Rattle.sheets.proofs.AutomatonLoops.{total-along}
use Rattle.sheets.proofs.automata.automaton_total.Goals as goal

pub returns : goal.returns
returns c = total-along c.args.r.now c.args.x _ _ refl c.variables.ensures refl (rw c.states_on.ensures.ahead at c.along.ensures)
