-- `automaton_in_range` meets its contract: its variables and its first state.
use mathlib.Core.Path.{refl}
use Rattle.sheets.specs.Rules.{fits, automaton_in_range}
use Rattle.sheets.proofs.rules.automaton_in_range.Goals as goal

pub returns : goal.returns
unfolding automaton_in_range fits
returns c = rw (c.within.ensures, c.initial.ensures, c.states.ensures, c.variables.ensures) refl
