-- `signal_fits` meets its contract: the two tests of question 15 of a signal.
use Rattle.sheets.specs.Rules.{operands_fit}
use Rattle.sheets.proofs.lines.LineRecord.signal_fits.Goals as goal

pub returns : goal.returns
unfolding operands_fit
returns c = rw (c.unused.ensures, c.within.ensures, c.word.ensures)
