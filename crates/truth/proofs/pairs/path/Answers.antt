-- `path` meets its contract: what was made is written over the first pairs of the list, and shows the same path there.
use borrow.Author.Rules.{rules}
use native.Mathlib.Omega.{arith}
use lib.Seq.{length-take-le}
use Rattle.truth.proofs.pairs.PairAnswers.{count_fits, pairs-answered}
use Rattle.truth.proofs.pairs.path.Goals as goal

pub shared_ref_as_front-write_pairs : goal.shared_ref_as_front-write_pairs
shared_ref_as_front-write_pairs c =
    let fits = count_fits _ _ _ _ c.args.list.now _ _ _ _ c.make_within-made.ensures c.length_of-count.ensures (search rules) (search rules) in
    omega (arith, fits)

pub write_pairs-requires-clause-room : goal.write_pairs-requires-clause-room
write_pairs-requires-clause-room c =
    let made = c.make_within-made in
    let fits = count_fits _ _ _ _ c.args.list.now _ _ _ _ c.make_within-made.ensures c.length_of-count.ensures (search rules) (search rules) in
    omega (arith, length-take-le c.length_of-count.result made.result.nodes fits.1.0, fits)

pub returns : goal.returns
returns c =
    let made = c.make_within-made in
    let count = c.length_of-count.result in
    let fits = count_fits _ _ _ _ c.args.list.now _ _ _ _ c.make_within-made.ensures c.length_of-count.ensures (search rules) (search rules) in
    pairs-answered _ _ _ _ c.args.list.now _ _ _ _ c.make_within-made.ensures c.length_of-count.ensures (search rules) (search rules) c.write_pairs.new.list
    (rw (length-take-le count made.result.nodes fits.1.0) at c.write_pairs.ensures.by_node)
    (rw (length-take-le count made.result.states fits.1.1) at c.write_pairs.ensures.by_state)
