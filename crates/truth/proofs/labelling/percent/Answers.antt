-- `percent` meets its contract: the definition, case by case, and nothing wraps, since c is at most 128.
use mathlib.Core.Path.{sym}
use native.Mathlib.Omega.{arith}
use Rattle.truth.proofs.labelling.Percents.{percent-below, percent-above, percent-half}
use Rattle.truth.proofs.labelling.percent.Goals as goal

pub returns-then-twice-whole : goal.returns-then-twice-whole
returns-then-twice-whole c =
    sym (percent-below c.args.c c.args.n c.if-twice-whole.true)

pub returns-then-twice-whole-2 : goal.returns-then-twice-whole-2
returns-then-twice-whole-2 c =
    sym (percent-above c.args.c c.args.n c.if-twice-whole-2.true)

pub returns : goal.returns
returns c =
    sym (percent-half c.args.c c.args.n (omega arith))
