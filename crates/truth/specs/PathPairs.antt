-- What the path call answers and leaves where one list of pairs of node and state is lent.
use Rattle.std.specs.Prelude.{ℕ, List, map}
use Rattle.truth.specs.PathAnswers.{Answer, PathAnswer}
use Rattle.truth.specs.declared.pairs.Pair.{Pair}

-- the nodes of a list of pairs, place by place
abbrev pub pair_nodes : List Pair → List ℕ
pair_nodes ps = map (λ (p : Pair). p.node) ps

-- their states
abbrev pub pair_states : List Pair → List ℕ
pair_states ps = map (λ (p : Pair). p.state) ps

-- A pair is its node and its state, so that a list of pairs is the list of its nodes and that of its states: the answer over the one list is
-- that over the two. Both have the list's length, which is the room; where nothing is shown, both are as before, and so is the list.
abbrev pub PairsAnswer : List ℕ → List ℕ → ℕ → ℕ → List Pair → List Pair → Answer → Type 0
PairsAnswer M R j s before after answer = PathAnswer M R j s (pair_nodes before) (pair_states before) (pair_nodes after) (pair_states after) answer
