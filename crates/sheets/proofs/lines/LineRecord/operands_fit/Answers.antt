-- `operands_fit` meets its contract: question 15 of each operation.
use mathlib.Core.Path.{refl}
use mathlib.Core.Logic.{inl, inr}
use Rattle.sheets.specs.Rules.{line_fits}
use Rattle.sheets.proofs.lines.LineRecord.operands_fit.Goals as goal

pub returns-in-Signal : goal.returns-in-Signal
unfolding line_fits
returns-in-Signal c = rw c.in-Signal.is c.signal_fits.ensures

pub returns-in-Negation : goal.returns-in-Negation
unfolding line_fits
returns-in-Negation c = rw c.in-Negation.is c.lines_fit.ensures

pub returns-in-Either : goal.returns-in-Either
unfolding line_fits
returns-in-Either c = rw c.in-Either.is c.lines_fit-in-Either.ensures

pub returns-in-SomePath : goal.returns-in-SomePath
unfolding line_fits
returns-in-SomePath c = rw c.path_fits.ensures (elim c.in-SomePath.is [ inl e ↦ rw e refl | inr e ↦ rw e refl ])
