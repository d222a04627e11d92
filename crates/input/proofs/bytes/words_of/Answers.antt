-- `words_of` meets its contract. The loop's invariant: the words up to i stand at the head of the list as it was.
use mathlib.Core.Path.{◌≡◌}
use native.Mathlib.Omega.{arith}
use Rattle.input.proofs.WordLists.{words-next}
use Rattle.input.proofs.bytes.words_of.Goals as goal

pub loop-i-preserved : goal.loop-i-preserved
loop-i-preserved c = rw c.loop-i.invariant (words-next c.args.bytes.now c.args.words.now c.loop-i.i _ (omega arith) (omega arith) c.word_of.ensures)
