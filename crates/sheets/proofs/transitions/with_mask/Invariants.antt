-- The invariant of `with_mask`: the positions below k have their mask, and from k on the masks are as they were.
use mathlib.Core.Path.{◌≡◌}
use Prim.Native.Nat.{ℕ, ◌≤◌, ◌<◌}
use lib.ListN.{length, get_or}
use Rattle.sheets.specs.Format.{chained_most}
use Rattle.sheets.proofs.LeavingChains.{Masked}
use Rattle.sheets.proofs.transitions.with_mask.Given as goal

abbrev pub invariant-loop-k : goal.invariant-loop-k
invariant-loop-k l =
    (length l.masks ≡ chained_most) × ((j : ℕ) → j < l.k → Masked l.initial.masks l.set.bits l.mask j (get_or l.masks j 0)) × ((j : ℕ) → l.k ≤ j → get_or l.masks j 0 ≡ get_or l.initial.masks j 0)
