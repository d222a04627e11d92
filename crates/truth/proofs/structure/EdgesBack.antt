-- Edges backwards: the table of predecessors beside that of successors, and a pair's node where steps lead from it.
use Prim.Native.Nat.{ℕ, ◌-◌, ◌≤◌, ◌<◌}
use native.Mathlib.Omega.{arith}
use mathlib.Core.List.{List}
use mathlib.Core.Bool.{◌&&◌}
use lib.Dec.{T, leb, le→leb}
use Rattle.sheets.specs.Words.{within}
use Rattle.sheets.proofs.Tests.{and_right, and_both}
use Rattle.sheets.proofs.Search.{within_in}
use Rattle.truth.specs.Sizes.{positions_most, members_most, table_rows, cell}
use Rattle.truth.specs.inner.Rows.{rows_has}
use Rattle.truth.specs.inner.Pairs.{edge_in, UpTo, Transposed, Reaches, here, there}

module _ (n : ℕ) (next back : List ℕ) (tr : Transposed n next back) (s u : ℕ) (lo : 1 ≤ u) (hi : u ≤ n) where
  pub back-of : 1 ≤ s → s ≤ members_most → s ≤ n → T (edge_in next s u) → T (rows_has back (u - 1) s)
  back-of a b c x =
      rw (tr s u lo hi)
      (and_both (leb s n) (within 1 members_most s && edge_in next s u) (le→leb s n c) (and_both (within 1 members_most s) (edge_in next s u) (within_in 1 members_most s a b) x))

  pub edge_of : T (rows_has back (u - 1) s) → T (edge_in next s u)
  edge_of x = and_right (within 1 members_most s) (edge_in next s u) (and_right (leb s n) (within 1 members_most s && edge_in next s u) (rw (tr s u lo hi) at x))

-- a pair from which steps lead into a set has one of the nodes 1 to n
pub reaches-up : (allow next : List ℕ) (t n : ℕ) (xs : List ℕ) → t ≤ positions_most → UpTo n table_rows allow → UpTo n t xs
    → {p s : ℕ} → p < t → Reaches allow next t xs p s → s ≤ n
reaches-up allow next t n xs few allow-up xs-up {p} {s} l (here i) = xs-up p s l i
reaches-up allow next t n xs few allow-up xs-up {p} {s} l (there {p' = p'} step r) = allow-up (cell p p') s (omega (arith, step.below)) step.allowed
