-- The invariant of `spread`: the set so far is the set with the rows of its members below j.
use mathlib.Core.Path.{◌≡◌}
use Prim.Native.Nat.{ℕ}
use Rattle.sheets.specs.Words.{bit}
use Rattle.sheets.specs.inner.Positions.{in_row}
use Rattle.sheets.proofs.Positions.{joined}
use Rattle.sheets.proofs.condition.Relation.spread.Given as goal

abbrev pub invariant-loop-j : goal.invariant-loop-j
invariant-loop-j l = (i : ℕ) → bit l.out.bits i ≡ joined (bit l.set.bits) (λ j. in_row l.self.rows j i) (bit l.set.bits i) l.j
