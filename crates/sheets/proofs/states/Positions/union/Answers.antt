-- `union` meets its contract, by the bits of an or.
use Rattle.sheets.proofs.BitLaws.{bit-or}
use Rattle.sheets.proofs.states.Positions.union.Goals as goal

pub returns : goal.returns
returns c = bit-or c.args.self.bits c.args.other.bits
