-- `with_mask` meets its contract: the mask of one position more.
use mathlib.Core.Path.{◌∙◌}
use native.Mathlib.Omega.{arith}
use lib.ListN.{length-set}
use lib.Seq.{get_or-set_other}
use Rattle.sheets.proofs.Positions.{stored}
use Rattle.sheets.proofs.LeavingChains.{Masked, masked-more}
use Rattle.sheets.proofs.transitions.with_mask.Goals as goal

pub loop-k-preserved : goal.loop-k-preserved
loop-k-preserved c =
    let a = c.args in
    let at = c.loop-k in (
      simp length-set at.invariant.0,
      stored (Masked a.masks a.set.bits a.mask) at.masks at.k _ (omega arith) at.invariant.1
          (masked-more a.masks a.set.bits a.mask at.k _ _ _ (at.invariant.2 at.k (omega arith)) c.contains.ensures c.kept.ensures),
      λ j l. get_or-set_other at.masks at.k j _ 0 (λ e. omega arith) ∙ at.invariant.2 j (omega arith),
    )
