-- `lines_fit` meets its contract: the two tests of question 15 of an operation on lines.
use Rattle.sheets.specs.Rules.{operands_fit}
use Rattle.sheets.proofs.lines.LineRecord.lines_fit.Goals as goal

pub returns : goal.returns
unfolding operands_fit
returns c = rw (c.unused.ensures, c.refers_above.ensures)
