-- `with` meets its contract: one bit more, in the word that has the member.
use native.Mathlib.Omega.{arith}
use Rattle.truth.proofs.rows.RowLaws.{with-low, with-high}
use Rattle.truth.proofs.rows.Row.with.Goals as goal

pub returns-in-1-to-64 : goal.returns-in-1-to-64
returns-in-1-to-64 c i = with-low _ _ _ i (omega arith) (omega arith)

pub returns-in-65-to-128 : goal.returns-in-65-to-128
returns-in-65-to-128 c i = with-high _ _ _ i (omega arith) (omega arith)
