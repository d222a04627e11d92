-- `intersection` meets its contract: word by word.
use Rattle.truth.proofs.rows.RowLaws.{held-and}
use Rattle.truth.proofs.rows.Row.intersection.Goals as goal

pub returns : goal.returns
returns c s = held-and _ _ _ _ s
