-- Condition 1, asked of a whole sheet: question 14 says yes exactly when no automaton has a mixed pair of walks on its chain.
use mathlib.Core.Logic.{◌↔◌}
use Prim.Native.Nat.{ℕ, ◌≤◌}
use mathlib.Core.List.{List}
use lib.Dec.{T}
use Rattle.sheets.specs.Rules.{Form, automata, states_of, unmixed, q14}
use Rattle.sheets.specs.Cycles.{Mixed}
use Rattle.sheets.proofs.Search.{each_at, each_in}
use Rattle.sheets.proofs.Walks.{unmixed-exactly}

pub fourteen-exactly : (F : Form) (R : List ℕ) → T (q14 F R) ↔ ((x : ℕ) → 1 ≤ x → x ≤ automata R → Mixed R (states_of R x) → ⊥)
unfolding q14
fourteen-exactly F R = (
  λ t x lo hi. (unmixed-exactly R (states_of R x)).0 (each_at (automata R) (λ x. unmixed R (states_of R x)) t x lo hi),
  λ none. each_in (automata R) (λ x. unmixed R (states_of R x)) (λ x lo hi. (unmixed-exactly R (states_of R x)).1 (none x lo hi)),
)
