-- `check_lines` meets its contract. The invariant: the lines passed, those below j, pass question 15.
use Prim.Native.Nat.{ℕ, ◌-◌, ◌≤◌}
use mathlib.Core.List.{List}
use mathlib.Core.Bool.{Bool}
use Rattle.sheets.specs.Format.{operation_place}
use Rattle.sheets.specs.Rules.{lent, lines, line_word, line_fits}
use Rattle.sheets.proofs.EachLoops.{Tested}
use Rattle.sheets.proofs.lines.check_lines.Given as goal

abbrev pub test : List ℕ → ℕ → Bool
test r j = line_fits lent r j (line_word lent r j operation_place)

abbrev pub invariant-loop-j : goal.invariant-loop-j
invariant-loop-j l = (1 ≤ l.j) × Tested (test l.r) (lines l.r) l.j-end (l.j - 1)
