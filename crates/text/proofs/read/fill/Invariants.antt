-- `fill` meets its contract. The loop's invariant: the reader has passed so many bytes, and the lent words are filled so far.
use Rattle.text.proofs.Filling.{Filled}
use Rattle.text.proofs.read.fill.Given as goal

abbrev pub invariant-loop-byte : goal.invariant-loop-byte
invariant-loop-byte l = Filled l.initial.words l.text l.byte-index l.reader l.words
