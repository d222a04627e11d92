-- `merge` meets its contract. The invariant: the lines before i are done.
use Prim.Native.Nat.{ℕ, ◌+◌, ◌-◌, ◌≤◌}
use mathlib.Core.List.{List}
use Rattle.comparison.specs.inner.Lines.{Entry, Lists}
use Rattle.comparison.specs.inner.Needed.{MergedIn}
use Rattle.comparison.proofs.needed.Merging.merge.Given as goal

abbrev pub invariant-loop-i : goal.invariant-loop-i
invariant-loop-i l = record {
  high : l.i ≤ l.lines.count + 1;
  merged : (a : ℕ) (ls : List Entry) → Lists a l.lines ls → MergedIn ls (l.i - 1) l.self;
}
