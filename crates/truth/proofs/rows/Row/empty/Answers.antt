-- `empty` meets its contract: two words of 0 hold nothing.
use Rattle.truth.proofs.rows.RowLaws.{held_none}
use Rattle.truth.proofs.rows.Row.empty.Goals as goal

pub returns : goal.returns
returns c s = held_none s
