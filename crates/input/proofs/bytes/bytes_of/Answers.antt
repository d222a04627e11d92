-- `bytes_of` meets its contract. The loop's invariant: the bytes of i words stand at the head of the list as it was.
use mathlib.Core.Path.{◌≡◌}
use native.Mathlib.Omega.{arith}
use lib.ListN.{length, take}
use lib.Seq.{length-take-le}
use Rattle.std.proofs.lemmas.List.{get_or-take}
use Rattle.input.proofs.ByteLists.{bytes_next}
use Rattle.input.proofs.bytes.bytes_of.Goals as goal

pub loop-i-preserved : goal.loop-i-preserved
loop-i-preserved c =
    let words = c.args.words.now in
    let n = c.min-n.result in
    let taken : length (take n words) ≡ n = length-take-le n words (omega arith) in
    let word = get_or-take n words c.loop-i.i 0 (omega (arith, taken)) in
    rw (c.put_word.ensures, word, c.loop-i.invariant) (bytes_next words c.args.bytes.now c.loop-i.i (omega (arith, taken)) (omega (arith, taken)))
