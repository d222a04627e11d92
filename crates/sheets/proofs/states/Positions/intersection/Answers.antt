-- `intersection` meets its contract, by the bits of an and.
use Rattle.sheets.proofs.BitLaws.{bit-and}
use Rattle.sheets.proofs.states.Positions.intersection.Goals as goal

pub returns : goal.returns
returns c = bit-and c.args.self.bits c.args.other.bits
