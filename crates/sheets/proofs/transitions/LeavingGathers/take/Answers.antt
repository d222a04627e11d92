-- A transition is taken in: the positions of its target, and what each field has with them.
use Rattle.sheets.proofs.LeavingChains.{left-more}
use Rattle.sheets.proofs.transitions.LeavingGathers.take.Goals as goal

pub returns : goal.returns
returns c =
    left-more _ _ _ _ _ _ _ _ _ _ _ c.positions-here.ensures c.with_mask-masks.ensures c.only_if-led.ensures c.is_empty-there.ensures c.intersection.ensures c.is_empty-again.ensures c.union.ensures c.union-2.ensures
