-- The invariant of `reached`: the rows below p have what is reached from there.
use mathlib.Core.Path.{◌≡◌}
use Prim.Native.Nat.{ℕ, ◌<◌}
use mathlib.Core.List.{List}
use lib.ListN.{length, get_or}
use Rattle.sheets.specs.Format.{chained_most}
use Rattle.sheets.specs.Words.{bit}
use Rattle.sheets.specs.inner.Positions.{in_row, reached_at}
use Rattle.sheets.proofs.condition.Relation.reached.Given as goal

-- v is the row of position j
abbrev pub Row : List ℕ → ℕ → ℕ → ℕ → Type 0
Row rows n j v = (i : ℕ) → bit v i ≡ reached_at (in_row rows) n j n i

abbrev pub invariant-loop-p : goal.invariant-loop-p
invariant-loop-p l = (length l.rows ≡ chained_most) × ((j : ℕ) → j < l.p → Row l.self.rows l.self.count j (get_or l.rows j 0))
