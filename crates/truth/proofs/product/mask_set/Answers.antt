-- `mask_set` meets its contract: a mask has sixteen bits.
use native.Mathlib.Omega.{arith}
use Rattle.truth.proofs.product.MaskRows.{mask-members}
use Rattle.truth.proofs.product.mask_set.Goals as goal

pub returns : goal.returns
returns c u = mask-members c.args.mask (omega arith) u
