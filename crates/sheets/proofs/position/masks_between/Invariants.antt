-- The invariant of `masks_between`: the masks out of the positions below p are there.
use mathlib.Core.Path.{◌≡◌}
use Prim.Native.Nat.{◌*◌}
use lib.ListN.{length}
use Rattle.sheets.specs.Format.{chained_most}
use Rattle.sheets.proofs.PositionedTables.{From}
use Rattle.sheets.proofs.position.masks_between.Given as goal

abbrev pub invariant-loop-p : goal.invariant-loop-p
invariant-loop-p l = (length l.out ≡ chained_most * chained_most) × From l.r l.states.numbers l.states.count l.p l.out
