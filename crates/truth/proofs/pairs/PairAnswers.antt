-- The answer of the path call over a list of pairs: what was made, written over the first pairs of the list, is answered; and that the answer
-- says every pair, since a pair is its node and its state.
use mathlib.Core.Path.{◌≡◌, refl, sym, ap, ◌∙◌}
use Prim.Native.Nat.{ℕ, zero, suc, ◌+◌, min, ◌≤◌}
use native.Mathlib.Omega.{arith}
use mathlib.Core.List.{List, [], ◌∷◌, ◌++◌, map}
use lib.ListN.{length, take, drop, get_or, length-map, length-drop}
use lib.Seq.{get_or-drop, ext_get_or}
use Rattle.truth.specs.Sizes.{pairs_most}
use Rattle.sheets.specs.Words.{word}
use Rattle.std.specs.Prelude.{Some, None, Ok, Err}
use Rattle.sheets.specs.Questions.{first_no}
use Rattle.sheets.specs.Refusals.{refusal_of}
use Rattle.truth.specs.Path.{path_questions}
use Rattle.truth.specs.PathAnswers.{Answer, length_of, Leaves}
use Rattle.truth.specs.inner.Made.{MadeFor}
use Rattle.truth.specs.PathPairs.{pair_nodes, pair_states, PairsAnswer}
use Rattle.truth.specs.declared.pairs.Pair.{Pair}
use Rattle.truth.proofs.path.ShownPaths.{count_most, answered}

module _ (M R : List ℕ) (j s : ℕ) (before : List Pair) (nodes states : List ℕ) (count : ℕ) (answer : Answer)
    (made : MadeFor M R j s (min (length before) pairs_most) nodes states answer) (counted : count ≡ length_of answer)
    (long-nodes : length nodes ≡ pairs_most) (long-states : length states ≡ pairs_most) where
  -- no more pairs than the list and what was made have
  pub count_fits : (count ≤ length before) × ((count ≤ length nodes) × (count ≤ length states))
  count_fits =
      let few = count_most M R j s (min (length before) pairs_most) nodes states count answer made counted in
      (omega (arith, few), (omega (arith, few, long-nodes), omega (arith, few, long-states)))

  pub pairs-answered : (after : List Pair) → pair_nodes after ≡ take count nodes ++ drop count (pair_nodes before)
      → pair_states after ≡ take count states ++ drop count (pair_states before) → PairsAnswer M R j s before after answer
  pairs-answered after en es =
      let ln : length (pair_nodes before) ≡ length before = length-map before (λ (p : Pair). p.node) in
      let ls : length (pair_states before) ≡ length before = length-map before (λ (p : Pair). p.state) in
      answered M R j s (min (length before) pairs_most) nodes states (pair_nodes before) (pair_states before) (pair_nodes after) (pair_states after)
      (omega (arith, ln, ls)) (omega (arith, long-nodes)) (omega (arith, long-states)) count answer made counted en es

-- ---- the answer says every pair

-- a list of pairs is its nodes and its states
same-pairs : (xs ys : List Pair) → pair_nodes xs ≡ pair_nodes ys → pair_states xs ≡ pair_states ys → xs ≡ ys
same-pairs [] [] n s = refl
same-pairs [] (y ∷ ys) n s = absurd (omega (arith, ap length n))
same-pairs (x ∷ xs) [] n s = absurd (omega (arith, ap length n))
same-pairs (x ∷ xs) (y ∷ ys) n s =
    let node = ap (λ (l : List ℕ). get_or l 0 0) n in
    let state = ap (λ (l : List ℕ). get_or l 0 0) s in
    let others = same-pairs xs ys (ap (drop 1) n) (ap (drop 1) s) in
    λ i. record { node = node i; state = state i } ∷ others i

-- two lists that agree from index k on
dropped-same : (k : ℕ) (xs ys : List ℕ) → length xs ≡ length ys → ((i : ℕ) → k ≤ i → word xs i ≡ word ys i) → drop k xs ≡ drop k ys
unfolding word
dropped-same k xs ys e h =
    ext_get_or 0 (drop k xs) (drop k ys) (simp length-drop (omega (arith, e)))
    (λ i b. get_or-drop k xs i 0 ∙ h (k + i) (omega arith) ∙ sym (get_or-drop k ys i 0))

map-drop : (f : Pair → ℕ) (k : ℕ) (xs : List Pair) → map f (drop k xs) ≡ drop k (map f xs)
map-drop f zero xs = refl
map-drop f (suc k) [] = refl
map-drop f (suc k) (x ∷ xs) = map-drop f k xs

-- the pairs past as many as the answer fills are as before: all of them where it is refused, and where there is no path
pub pairs-kept : (M R : List ℕ) (j s : ℕ) (before after : List Pair) (answer : Answer) → PairsAnswer M R j s before after answer
    → drop (length_of answer) after ≡ drop (length_of answer) before
unfolding Leaves
pairs-kept M R j s before after (Err refusal) a = same-pairs after before a.leaves.1 a.leaves.2
pairs-kept M R j s before after (Ok None) a = same-pairs after before a.leaves.1 a.leaves.2
pairs-kept M R j s before after (Ok (Some path)) a =
    let shown = a.leaves.1 in
    same-pairs (drop path.length after) (drop path.length before)
    (map-drop (λ (p : Pair). p.node) path.length after ∙ dropped-same path.length (pair_nodes after) (pair_nodes before) shown.size-nodes shown.rest-nodes
    ∙ sym (map-drop (λ (p : Pair). p.node) path.length before))
    (map-drop (λ (p : Pair). p.state) path.length after ∙ dropped-same path.length (pair_states after) (pair_states before) shown.size-states
    shown.rest-states
    ∙ sym (map-drop (λ (p : Pair). p.state) path.length before))

-- a refusal is the first "no" of the table with the list's length for the room
pub pairs-refusal : (M R : List ℕ) (j s : ℕ) (before after : List Pair) (answer : Answer) → PairsAnswer M R j s before after answer
    → refusal_of answer ≡ first_no (path_questions M R j s (length before))
pairs-refusal M R j s before after answer a =
    let ln : length (pair_nodes before) ≡ length before = length-map before (λ (p : Pair). p.node) in
    let ls : length (pair_states before) ≡ length before = length-map before (λ (p : Pair). p.state) in
    let room : min (length (pair_nodes before)) (length (pair_states before)) ≡ length before = omega (arith, ln, ls) in
    rw room at a.refusal
