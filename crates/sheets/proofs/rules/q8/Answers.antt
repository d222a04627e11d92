-- `q8` meets its contract.
use Rattle.sheets.specs.Rules.{q8}
use Rattle.sheets.proofs.rules.q8.Goals as goal

pub returns : goal.returns
unfolding q8
returns c = rw (← c.length_for.ensures)
