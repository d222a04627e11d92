-- `tell` is safe and ends: the pairs of the answer lie in the list.
use Rattle.std.proofs.Common.{sym}
use lib.Seq.{length-take-le}
use Rattle.path.proofs.ShownPairs.{pairs-fit}
use Rattle.path.proofs.tell.Goals as goal

pub slice_bounds-pairs-end : goal.slice_bounds-pairs-end
slice_bounds-pairs-end g c =
    let arm = c.in-Ok-Some in
    let some = rw arm.is at arm.field-0-is in
    sym (length-take-le arm.shown.length c.args.list.now (pairs-fit _ _ _ _ arm.shown _ _ c.requires.answered arm.is some))
