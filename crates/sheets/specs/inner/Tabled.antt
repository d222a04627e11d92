-- An automaton by position in the form that the code hands out, where it has few enough states. In tables positions count from 0, so that
-- position p is state p + 1.
use Rattle.std.specs.Prelude.{◌≡◌, ℕ, ◌+◌, ◌*◌, ◌<◌, get_or}
use Rattle.sheets.specs.Format.{chained_most}
use Rattle.sheets.specs.Words.{bit}
use Rattle.sheets.specs.Structures.{Automaton}
use Rattle.sheets.specs.declared.position.ByPosition.{ByPosition}

-- a has the automaton A, of the states 1 to n, and the name of each state
pub record Tabled (A : Automaton) (n : ℕ) (name : ℕ → ℕ) (a : ByPosition) : Type 0 where
  pub variables : a.variables ≡ A.variables
  pub count : a.count ≡ n
  pub initial : A.initial ≡ 1
  pub accepting : (p : ℕ) → p < n → bit a.accepting p ≡ A.accepting (p + 1)
  pub goes : (p q w : ℕ) → p < n → q < n → bit (get_or a.masks (chained_most * p + q) 0) w ≡ A.goes (p + 1) w (q + 1)
  pub numbers : (p : ℕ) → p < n → get_or a.numbers p 0 ≡ name (p + 1)
