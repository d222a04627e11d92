-- `fill` meets its contract. The loop's invariant: the reader has passed so many bytes, and the lent words are filled so far.
use native.Mathlib.Omega.{arith}
use Rattle.text.proofs.Filling.{filled_none, filled_more, filled-all}
use Rattle.text.proofs.read.fill.Goals as goal

pub loop-byte-init : goal.loop-byte-init
loop-byte-init c = rw c.start-reader.ensures (filled_none c.args.words.now c.args.text.now)

pub loop-byte-preserved : goal.loop-byte-preserved
loop-byte-preserved c =
    rw c.put.ensures (filled_more _ _ _ _ _ _ c.loop-byte-test.true c.loop-byte.invariant c.step-reader.ensures)

pub returns : goal.returns
returns c = filled-all _ c.args.text.now _ c.loop-byte.byte-index _ (omega arith) c.loop-byte.invariant
