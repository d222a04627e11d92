-- The invariant of `accepting_row`: the set so far has the positions below i with an accepting state.
use mathlib.Core.Path.{◌≡◌}
use Prim.Native.Nat.{ℕ}
use mathlib.Core.List.{List}
use mathlib.Core.Bool.{Bool}
use lib.ListN.{get_or}
use Rattle.sheets.specs.Words.{bit}
use Rattle.sheets.specs.Rules.{accepting}
use Rattle.sheets.proofs.Positions.{up_to}
use Rattle.sheets.proofs.condition.accepting_row.Given as goal

abbrev pub test : List ℕ → List ℕ → ℕ → Bool
test r states i = accepting r (get_or states i 0)

abbrev pub invariant-loop-i : goal.invariant-loop-i
invariant-loop-i l = (k : ℕ) → bit l.out.bits k ≡ up_to (test l.r l.states.numbers) k l.i
