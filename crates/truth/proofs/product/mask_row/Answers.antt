-- `mask_row` meets its contract: a member of the mask's set is a valuation.
use native.Mathlib.Omega.{arith}
use Rattle.truth.specs.inner.Rows.{row_has}
use Rattle.truth.proofs.product.MaskRows.{drawn}
use Rattle.truth.proofs.product.mask_row.Goals as goal

pub returns : goal.returns
returns c = drawn c.args.mask (omega arith) c.args.table.now (row_has c.mask_set.result) (row_has c.together.result) c.mask_set.ensures c.together.ensures
