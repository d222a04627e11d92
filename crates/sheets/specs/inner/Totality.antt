-- Question 13 along an automaton's chain of states, gathered: whether the answer is yes of each state so far.
use Rattle.std.specs.Prelude.{◌≡◌, ℕ, false, ◌&&◌}
use Rattle.sheets.specs.Rules.{transitions_of, total}
use Rattle.sheets.specs.declared.walker.Record.{Record}
use Rattle.sheets.specs.declared.automata.Totality.{Totality}

-- the state q more
pub record Tested (a : Totality) (q : ℕ) (r : Totality) : Type 0 where
  pub sheet : r.sheet.now ≡ a.sheet.now
  pub variables : r.variables ≡ a.variables
  pub all : r.all ≡ (a.all && total a.sheet.now a.variables (transitions_of a.sheet.now q))

-- one record's state more
abbrev pub StateTaken : Totality → Record → Totality → Type 0
StateTaken a s r = Tested a s.number r

-- the answer is no of some state
abbrev pub SomeNot : Totality → Type 0
SomeNot a = a.all ≡ false
