-- A list shows a path by its places 1 to its length: two lists that agree there show the same. So the list that was made for a path call
-- shows its path in the lent lists whose first words it is written over.
use mathlib.Core.Path.{◌≡◌, ◌∙◌}
use Prim.Native.Nat.{ℕ, ◌-◌, min, ◌≤◌}
use native.Mathlib.Omega.{arith}
use mathlib.Core.List.{List, ◌++◌}
use mathlib.Core.Bool.{not}
use lib.ListN.{length, take, drop}
use Rattle.std.specs.Prelude.{Some, None, Ok, Err}
use Rattle.sheets.specs.Words.{word}
use Rattle.sheets.specs.Structures.{Kripke, Automaton, Line, signal, negation, either, some_path, some_path_not, malformed}
use Rattle.sheets.specs.Machine.{kripke}
use Rattle.sheets.specs.Rules.{lent, automaton, line}
use Rattle.truth.specs.Sizes.{pairs_most}
use Rattle.truth.specs.Truth.{Truths, TrueAt}
use Rattle.truth.specs.inner.Trails.{placed}
use Rattle.truth.specs.Path.{asked, Shows, ShowsPath, ShownPath}
use Rattle.truth.specs.PathAnswers.{Answer, length_of, Leaves, PathAnswer}
use Rattle.truth.specs.inner.Made.{MadePath, MadeFor}
use Rattle.truth.proofs.path.PathTable.{room_most}
use Rattle.truth.proofs.path.SameLists.{lasso-same}
use Rattle.truth.proofs.path.WrittenLists.{written-length, written-here, written-rest}

-- ---- lists that agree at the places 1 to `len`

module _ (node state node' state' : ℕ → ℕ) (len back : ℕ) (nodes : (i : ℕ) → 1 ≤ i → i ≤ len → node' i ≡ node i)
    (states : (i : ℕ) → 1 ≤ i → i ≤ len → state' i ≡ state i) where
  shows_same : (K : Kripke) (A : ℕ → Automaton) (above : Truths) (line : Line) (s : ℕ) → Shows K A above line s node state len back
      → Shows K A above line s node' state' len back
  unfolding Shows
  shows_same K A above (signal i) s x = x
  shows_same K A above (negation i) s x = x
  shows_same K A above (either i k) s x = x
  shows_same K A above (some_path x arg) s l =
      lasso-same K (A x) arg (A x).accepting s len back above node state node' state' nodes states l
  shows_same K A above (some_path_not x arg) s l =
      lasso-same K (A x) arg (λ q. not ((A x).accepting q)) s len back above node state node' state' nodes states l
  shows_same K A above malformed s x = x

-- ---- the answer of a path call

module _ (M R : List ℕ) (j s room : ℕ) (nodes states : List ℕ) where
  -- as many places as the answer fills are there
  pub count_most : (count : ℕ) (answer : Answer) → MadeFor M R j s room nodes states answer → count ≡ length_of answer → count ≤ room
  unfolding MadePath
  count_most count (Err refusal) m e = omega arith
  count_most count (Ok None) m e = omega arith
  count_most count (Ok (Some shown)) m e = omega (arith, m.made.2)

  -- it is written over the first words of two lent lists
  module _ (nodes_before states_before nodes_after states_after : List ℕ) (roomy : room ≡ min (min (length nodes_before) (length states_before)) pairs_most)
      (long-nodes : pairs_most ≤ length nodes) (long-states : pairs_most ≤ length states) where
    shown-path : (l b : ℕ) → ShowsPath M R j s (placed nodes) (placed states) l b → l ≤ room
        → nodes_after ≡ take l nodes ++ drop l nodes_before → states_after ≡ take l states ++ drop l states_before
        → ShownPath M R j s nodes_before states_before nodes_after states_after l b
    unfolding word
    shown-path l b shows fits en es =
        let ln = written-length nodes nodes_before l (omega arith) (omega arith) in
        let ls = written-length states states_before l (omega arith) (omega arith) in
        record {
          size-nodes = rw en ln;
          size-states = rw es ls;
          fits = rw (en, es) (omega arith);
          shows = rw (en, es)
              (shows_same (placed nodes) (placed states) (placed (take l nodes ++ drop l nodes_before)) (placed (take l states ++ drop l states_before)) l b
              (λ i lo hi. written-here nodes nodes_before l (omega arith) (omega arith) (i - 1) (omega arith))
              (λ i lo hi. written-here states states_before l (omega arith) (omega arith) (i - 1) (omega arith)) (kripke M) (automaton R) (TrueAt lent M R)
              (line lent R (asked R j)) s shows);
          rest-nodes = λ i h. rw en (written-rest nodes nodes_before l (omega arith) (omega arith) i h);
          rest-states = λ i h. rw es (written-rest states states_before l (omega arith) (omega arith) i h);
        }

    leaves : (answer : Answer) → MadePath M R j s room nodes states answer → nodes_after ≡ take (length_of answer) nodes ++ drop (length_of answer) nodes_before
        → states_after ≡ take (length_of answer) states ++ drop (length_of answer) states_before
        → Leaves M R j s nodes_before states_before nodes_after states_after answer
    unfolding MadePath Leaves
    leaves (Err refusal) m en es = (m, en, es)
    leaves (Ok None) m en es = (m, en, es)
    leaves (Ok (Some shown)) m en es = (m.0, shown-path shown.length shown.back m.1 m.2 en es)

    pub answered : (count : ℕ) (answer : Answer) → MadeFor M R j s room nodes states answer → count ≡ length_of answer
        → nodes_after ≡ take count nodes ++ drop count nodes_before → states_after ≡ take count states ++ drop count states_before
        → PathAnswer M R j s nodes_before states_before nodes_after states_after answer
    answered count answer m e en es = record {
      refusal = rw roomy at m.refusal ∙ room_most M R j s (min (length nodes_before) (length states_before));
      leaves = leaves answer m.made (rw e at en) (rw e at es);
    }
