-- Definitions 1 and 2 of document 002 by positions: the states are the numbers from 1 to n. All that is needed of an automaton above the
-- sheets is here; that questions 9 to 14 give it is `positioned-sound` of proofs/PositionedStates.
use Rattle.std.specs.Prelude.{◌≡◌, ℕ, ◌^◌, ◌≤◌, ◌<◌, not, T}
use Rattle.sheets.specs.Structures.{Automaton}
use Rattle.sheets.specs.Cycles.{Walk}

-- from 1 to n
abbrev pub OneTo : ℕ → ℕ → Type 0
OneTo n q = (1 ≤ q) × (q ≤ n)

-- the automaton goes from p to q under some valuation
pub record MoveUnder (A : Automaton) (n p q : ℕ) : Type 0 where
  pub from : OneTo n p
  pub to : OneTo n q
  pub valuation : ℕ
  pub below : valuation < 2 ^ A.variables
  pub taken : T (A.goes p valuation q)

pub record Sound (A : Automaton) (n : ℕ) : Type 0 where
  pub begins : OneTo n A.initial
  -- no move leads out of the states
  pub stays : (q w q' : ℕ) → OneTo n q → T (A.goes q w q') → OneTo n q'
  -- under every valuation a state has a target, and only one
  pub target : (q w : ℕ) → OneTo n q → w < 2 ^ A.variables → (q' : ℕ) × T (A.goes q w q')
  pub single : (q w q' q'' : ℕ) → OneTo n q → w < 2 ^ A.variables → T (A.goes q w q') → T (A.goes q w q'') → q' ≡ q''
  -- condition 1: no walks there and back between an accepting and a non-accepting state
  pub apart : (p q : ℕ) → T (A.accepting p) → T (not (A.accepting q)) → Walk (MoveUnder A n) p q → Walk (MoveUnder A n) q p → ⊥
