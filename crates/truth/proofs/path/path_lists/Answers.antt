-- `path_lists` meets its contract: what was made is written over the first words of the lent lists, and shows the same path there.
use Rattle.std.proofs.Common.{◌≡◌, length, arith, rules}
use Rattle.std.proofs.lemmas.List.{length-take, length-take-le}
use Rattle.truth.specs.Sizes.{pairs_most}
use Rattle.truth.proofs.path.ShownPaths.{count_most, answered}
use Rattle.truth.proofs.path.path_lists.Goals as goal

pub shared_ref_as_front-write_nodes : goal.shared_ref_as_front-write_nodes
shared_ref_as_front-write_nodes c =
    omega (arith, count_most _ _ _ _ _ _ _ _ _ c.make_within-made.ensures c.length_of-count.ensures)

pub write_nodes-requires : goal.write_nodes-requires
write_nodes-requires c =
    let few = count_most _ _ _ _ _ _ _ _ _ c.make_within-made.ensures c.length_of-count.ensures in
    rw length-take (omega (arith, few, c.min.ensures))

pub write_states-requires : goal.write_states-requires
write_states-requires c =
    let few = count_most _ _ _ _ _ _ _ _ _ c.make_within-made.ensures c.length_of-count.ensures in
    rw length-take (omega (arith, few, c.min.ensures))

pub returns : goal.returns
returns c =
    let made = c.make_within-made in
    let few = count_most _ _ _ _ _ _ _ _ _ c.make_within-made.ensures c.length_of-count.ensures in
    let long-nodes : length c.make_within-made.result.nodes ≡ pairs_most = search rules in
    let long-states : length c.make_within-made.result.states ≡ pairs_most = search rules in
    let count = c.length_of-count.result in
    answered _ _ _ _ _ _ _ c.args.nodes.now c.args.states.now _ _
    (omega (arith, c.min.ensures)) (omega arith) (omega arith) _ _ made.ensures c.length_of-count.ensures
    (rw (length-take-le count made.result.nodes (omega (arith, few, long-nodes))) at c.write_nodes.ensures)
    (rw (length-take-le count made.result.states (omega (arith, few, long-states))) at c.write_states.ensures)
