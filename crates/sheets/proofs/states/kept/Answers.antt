-- `kept` meets its contract: 0 has no bit.
use Rattle.sheets.proofs.BitLaws.{bit-none}
use Rattle.sheets.proofs.states.kept.Goals as goal

pub returns-else-yes : goal.returns-else-yes
returns-else-yes c k = rw c.if-yes.false (bit-none k)
