-- `union` meets its contract: word by word.
use Rattle.truth.proofs.rows.RowLaws.{held-or}
use Rattle.truth.proofs.rows.Row.union.Goals as goal

pub returns : goal.returns
returns c s = held-or _ _ _ _ s
