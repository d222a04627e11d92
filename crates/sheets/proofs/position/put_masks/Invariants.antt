-- The invariant of `put_masks`: the masks towards the positions below k are written, and those of earlier positions are as they were.
use mathlib.Core.Path.{◌≡◌}
use Prim.Native.Nat.{ℕ, ◌+◌, ◌*◌, ◌<◌}
use lib.ListN.{length, get_or}
use Rattle.sheets.specs.Format.{chained_most}
use Rattle.sheets.proofs.position.put_masks.Given as goal

abbrev pub invariant-loop-k : goal.invariant-loop-k
invariant-loop-k l =
    (length l.out ≡ chained_most * chained_most) × ((j : ℕ) → j < l.k → get_or l.out (chained_most * l.p + j) 0 ≡ get_or l.masks j 0) × ((i : ℕ) → i < chained_most * l.p → get_or l.out i 0 ≡ get_or l.initial.out i 0)
