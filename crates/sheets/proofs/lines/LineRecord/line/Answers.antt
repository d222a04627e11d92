-- `line` meets its contract: what each operation makes of the words.
use mathlib.Core.Path.{refl}
use Rattle.sheets.specs.Rules.{line_of}
use Rattle.sheets.specs.inner.Lines.{handed}
use Rattle.sheets.proofs.lines.LineRecord.line.Goals as goal

pub returns-in-Signal : goal.returns-in-Signal
unfolding handed line_of
returns-in-Signal c = rw (c.in-Signal.is, c.word.ensures) refl

pub returns-in-Negation : goal.returns-in-Negation
unfolding handed line_of
returns-in-Negation c = rw (c.in-Negation.is, c.word-in-Negation.ensures) refl

pub returns-in-Either : goal.returns-in-Either
unfolding handed line_of
returns-in-Either c = rw (c.in-Either.is, c.word-first.ensures, c.word-second.ensures) refl

pub returns-in-SomePath : goal.returns-in-SomePath
unfolding handed line_of
returns-in-SomePath c = rw (c.in-SomePath.is, c.path_line.ensures) refl

pub returns-in-SomePathNot : goal.returns-in-SomePathNot
unfolding handed line_of
returns-in-SomePathNot c = rw (c.in-SomePathNot.is, c.path_line-in-SomePathNot.ensures) refl
