-- The invariant of `label_lines`: the rows of the lines before j are written, and each has the truths of its line.
use Rattle.std.proofs.Common.{◌+◌, ◌-◌, ◌≤◌}
use Rattle.truth.specs.Labelling.{RowsTo}
use Rattle.truth.proofs.labelling.label_lines.Given as goal

abbrev pub invariant-loop-j : goal.invariant-loop-j
invariant-loop-j l = record { next : l.j ≤ l.upto + 1; rows : RowsTo l.m l.r (l.j - 1) l.initial.rows l.rows }
