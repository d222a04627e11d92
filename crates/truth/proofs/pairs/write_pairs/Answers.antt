-- `write_pairs` meets its contract: a list in which the pairs are stored has their nodes and their states.
use mathlib.Core.Path.{◌≡◌, refl, sym, ap, ◌∙◌}
use mathlib.Core.Logic.{⊎_elim}
use native.Mathlib.Omega.{arith}
use lib.ListN.{length, length-drop}
use lib.Seq.{take-length}
use Rattle.truth.specs.PathPairs.{pair_nodes, pair_states}
use Rattle.truth.proofs.pairs.FilledPairs.{nodes-filled, states-filled}
use Rattle.truth.proofs.pairs.write_pairs.Goals as goal

pub returns-clause-by_node : goal.returns-clause-by_node
returns-clause-by_node c =
    let a = c.args in
    let l = c.loop-i in
    let all : l.i-iterator.count ≡ length a.nodes.now =
    ⊎_elim (λ w. omega (arith, w.1.0, ap length l.invariant.nodes_left, length-drop l.i-iterator.count a.nodes.now))
    (λ w. omega (arith, w.1.0, ap length l.invariant.states_left, length-drop l.i-iterator.count a.states.now)) c.in-None.ensures.steps.0 in
    ap pair_nodes (rw all at l.invariant.stored)
    ∙ nodes-filled (length a.nodes.now) a.nodes.now a.states.now a.list.now (omega arith) (omega arith) (omega arith)
    ∙ rw take-length refl

pub returns-clause-by_state : goal.returns-clause-by_state
returns-clause-by_state c =
    let a = c.args in
    let l = c.loop-i in
    let same = sym c.requires.as_many in
    let all : l.i-iterator.count ≡ length a.states.now =
    ⊎_elim (λ w. omega (arith, w.1.0, ap length l.invariant.nodes_left, length-drop l.i-iterator.count a.nodes.now))
    (λ w. omega (arith, w.1.0, ap length l.invariant.states_left, length-drop l.i-iterator.count a.states.now)) c.in-None.ensures.steps.0 in
    ap pair_states (rw all at l.invariant.stored)
    ∙ states-filled (length a.states.now) a.nodes.now a.states.now a.list.now (omega arith) (omega arith) (omega arith)
    ∙ rw take-length refl
