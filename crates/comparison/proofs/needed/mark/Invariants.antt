-- `mark` meets its contract. The invariant: of the needed lines above line i, what they refer to is marked.
use mathlib.Core.Path.{◌≡◌}
use Prim.Native.Nat.{ℕ, ◌≤◌}
use mathlib.Core.List.{List}
use lib.ListN.{length}
use Rattle.comparison.specs.inner.Sizes.{line_places}
use Rattle.comparison.specs.inner.Lines.{Entry, Lists}
use Rattle.comparison.specs.inner.Needed.{AllStand, Closed}
use Rattle.comparison.proofs.needed.mark.Given as goal

abbrev pub invariant-loop-i : goal.invariant-loop-i
invariant-loop-i l = record {
  size : length l.needed.places ≡ line_places;
  closed : (a : ℕ) (ls : List Entry) → Lists a l.lines ls → l.j ≤ length ls → AllStand ls (length ls) l.same.places → Closed ls l.same.places l.i l.j l.needed.places;
}
