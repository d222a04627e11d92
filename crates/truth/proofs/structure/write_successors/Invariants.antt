-- `write_successors` meets its contract. The invariant: the first s rows have the successors of the nodes 1 to s.
use Rattle.truth.specs.Sizes.{members_most, table_words}
use mathlib.Core.Bool.{Bool, ◌&&◌}
use mathlib.Core.Path.{◌≡◌}
use mathlib.Core.List.{List}
use Prim.Native.Nat.{ℕ, ◌+◌}
use Rattle.sheets.specs.Words.{within}
use Rattle.sheets.specs.Machine.{kripke}
use Rattle.truth.proofs.tables.TableLaws.{Filled}
use Rattle.truth.proofs.structure.write_successors.Given as goal

-- whether node i + 1 has an edge to t
abbrev pub Next : List ℕ → ℕ → ℕ → Bool → Type 0
Next m i t b = b ≡ (within 1 members_most t && (kripke m).edge (i + 1) t)

abbrev pub invariant-loop-s : goal.invariant-loop-s
invariant-loop-s l = Filled table_words (Next l.m) l.s l.out
