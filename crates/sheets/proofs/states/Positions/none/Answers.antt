-- `none` meets its contract: 0 has no bit.
use Rattle.sheets.proofs.BitLaws.{bit-none}
use Rattle.sheets.proofs.states.Positions.none.Goals as goal

pub returns : goal.returns
returns c k = bit-none k
