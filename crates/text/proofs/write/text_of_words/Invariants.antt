-- `text_of_words` meets its contract. The loop's invariant: i words are put, up to a place, and there is room for those that are left.
use Rattle.text.proofs.Writing.{Wrote}
use Rattle.text.proofs.write.text_of_words.Given as goal

abbrev pub invariant-loop-i : goal.invariant-loop-i
invariant-loop-i l = Wrote l.words l.initial.text l.i l.at l.text
