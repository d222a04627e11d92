-- `count` meets its contract: the ones of both words; each has at most as many as it has bits.
use native.Mathlib.Omega.{arith}
use Rattle.truth.proofs.rows.RowLaws.{held-count}
use Rattle.truth.proofs.rows.Row.count.Goals as goal

pub returns : goal.returns
returns c = held-count _ _ (omega arith) (omega arith)
