-- `words_of` meets its contract. The loop's invariant: the words up to i stand at the head of the list as it was.
use mathlib.Core.Path.{◌≡◌}
use mathlib.Core.List.{◌++◌}
use lib.ListN.{take, drop}
use Rattle.input.specs.Bytes.{words_of}
use Rattle.input.proofs.bytes.words_of.Given as goal

abbrev pub invariant-loop-i : goal.invariant-loop-i
invariant-loop-i l = l.words ≡ take l.i (words_of l.bytes) ++ drop l.i l.initial.words
