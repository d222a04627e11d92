-- `with_bytes` meets its contract.
use mathlib.Core.Path.{ap, ◌∙◌}
use native.Mathlib.Omega.{arith}
use Rattle.text.specs.Lines.{shown}
use Rattle.text.proofs.HeldLines.{adds-array, shows-added}
use Rattle.text.proofs.line.Line.with_bytes.Goals as goal

pub returns-clause-added : goal.returns-clause-added
returns-clause-added c =
    adds-array c.args.self c.args.more.now _ c.min-start.result c.min-count.result _ _ (omega arith) (omega arith) (omega arith) (omega arith) c.copy_from_slice.ensures.after (omega arith)

pub returns-clause-shows : goal.returns-clause-shows
returns-clause-shows c = ap shown (returns-clause-added c) ∙ shows-added c.args.self c.args.more.now (omega arith)
