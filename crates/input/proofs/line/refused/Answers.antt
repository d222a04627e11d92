-- `refused` meets its contract: what each call adds has its place; a number of 16 bits has at most five digits.
use native.Mathlib.Omega.{arith}
use Rattle.input.proofs.RefusedLine.{refused-line}
use Rattle.input.proofs.line.refused.Goals as goal

pub returns : goal.returns
returns c =
    refused-line _ _ _ _ _ c.args.question c.args.sheet (omega arith) (omega arith) c.of.ensures
    c.with_number.ensures.added c.with_byte.ensures.added c.with_number-2.ensures.added c.with_byte-2.ensures.added
