-- The automaton of a record by positions: state p is the one at place p on its chain, counted from 1.
use Rattle.std.specs.Prelude.{ℕ, ◌-◌, List, ◌&&◌, length, get_or}
use Rattle.sheets.specs.Words.{within}
use Rattle.sheets.specs.Structures.{Automaton}
use Rattle.sheets.specs.Rules.{states_of, automaton}

-- how many states automaton x has
abbrev pub state_count : List ℕ → ℕ → ℕ
state_count R x = length (states_of R x)

-- the record number of the state at place p
abbrev pub state_of : List ℕ → ℕ → ℕ → ℕ
state_of R x p = get_or (states_of R x) (p - 1) 0

unfoldable pub positioned : List ℕ → ℕ → Automaton
unfolding automaton
positioned R x = record {
  variables = (automaton R x).variables;
  initial = 1;
  accepting = λ p. (automaton R x).accepting (state_of R x p);
  goes = λ p w q. within 1 (state_count R x) q && (automaton R x).goes (state_of R x p) w (state_of R x q);
}
