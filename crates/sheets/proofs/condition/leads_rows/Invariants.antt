-- The invariant of `leads_rows`: the rows below j have the positions to which a transition leads.
use mathlib.Core.Path.{◌≡◌}
use Prim.Native.Nat.{ℕ, ◌<◌}
use mathlib.Core.List.{List}
use mathlib.Core.Bool.{◌&&◌}
use lib.ListN.{length, get_or}
use lib.Dec.{ltb}
use Rattle.sheets.specs.Format.{chained_most}
use Rattle.sheets.specs.Words.{bit}
use Rattle.sheets.specs.Rules.{leads}
use Rattle.sheets.proofs.condition.leads_rows.Given as goal

abbrev pub Row : List ℕ → List ℕ → ℕ → ℕ → ℕ → Type 0
Row r states n p v = (i : ℕ) → bit v i ≡ (ltb i n && leads r p (get_or states i 0))

abbrev pub invariant-loop-j : goal.invariant-loop-j
invariant-loop-j l = (length l.rows ≡ chained_most) × ((k : ℕ) → k < l.j → Row l.r l.states.numbers l.states.count (get_or l.states.numbers k 0) (get_or l.rows k 0))
