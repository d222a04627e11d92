-- The invariant of `positions`: the set so far has the positions below k at which t stands.
use mathlib.Core.Path.{◌≡◌}
use Prim.Native.Nat.{ℕ}
use mathlib.Core.List.{List}
use mathlib.Core.Bool.{Bool}
use lib.ListN.{get_or}
use lib.Dec.{eqb}
use Rattle.sheets.specs.Words.{bit}
use Rattle.sheets.proofs.Positions.{up_to}
use Rattle.sheets.proofs.transitions.positions.Given as goal

abbrev pub test : List ℕ → ℕ → ℕ → Bool
test states t k = eqb t (get_or states k 0)

abbrev pub invariant-loop-k : goal.invariant-loop-k
invariant-loop-k l = (j : ℕ) → bit l.out.bits j ≡ up_to (test l.states.numbers l.t) j l.k
