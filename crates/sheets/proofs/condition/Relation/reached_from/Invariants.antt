-- The invariant of `reached_from`: the set so far has what that many rounds reach from p.
use mathlib.Core.Path.{◌≡◌}
use Prim.Native.Nat.{ℕ}
use Rattle.sheets.specs.Words.{bit}
use Rattle.sheets.specs.inner.Positions.{in_row, reached_at}
use Rattle.sheets.proofs.condition.Relation.reached_from.Given as goal

abbrev pub invariant-loop : goal.invariant-loop
invariant-loop l = (i : ℕ) → bit l.out.bits i ≡ reached_at (in_row l.self.rows) l.self.count l.p l.counter i
