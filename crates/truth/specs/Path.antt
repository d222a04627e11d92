-- The path call: its questions, and what is handed over.
use Rattle.std.specs.Prelude.{◌≡◌, ℕ, zero, suc, ◌-◌, ◌*◌, min, ◌≤◌, List, [], ◌∷◌, ◌++◌, Bool, not, ◌&&◌, length, leb}
use Rattle.sheets.specs.Words.{word, within}
use Rattle.sheets.specs.Format.{operation_place, operand_place}
use Rattle.sheets.specs.Operations.{some_path_operation, some_path_not_operation}
use Rattle.sheets.specs.Questions.{Question, ask}
use Rattle.sheets.specs.Structures.{Kripke, Automaton, Line, signal, negation, either, some_path, some_path_not, malformed}
use Rattle.sheets.specs.Machine.{kripke, nodes}
use Rattle.sheets.specs.Rules.{lent, lines, line_word, line, automaton}
use Rattle.sheets.specs.Positioned.{state_count}
use Rattle.sheets.specs.Sheets.{sheet_questions}
use Rattle.truth.specs.Truth.{Truths, TrueAt}
use Rattle.truth.specs.Lists.{Lasso}

-- line 0 means the last line
unfoldable pub asked : List ℕ → ℕ → ℕ
asked R zero = lines R
asked R (suc j) = suc j

unfoldable pub q18 : List ℕ → List ℕ → ℕ → ℕ → Bool
unfolding asked
q18 M R j s = within 1 (lines R) (asked R j) && within 1 (nodes M) s && within some_path_operation some_path_not_operation (line_word lent R (asked R j) operation_place)

-- `room` is how many pairs the list has space for
unfoldable pub q19 : List ℕ → List ℕ → ℕ → ℕ → Bool
unfolding asked
q19 M R j room = leb (nodes M * state_count R (line_word lent R (asked R j) operand_place)) room

-- the questions that the path call asks: those of both sheets, and its own
unfoldable pub path_questions : List ℕ → List ℕ → ℕ → ℕ → ℕ → List Question
unfolding sheet_questions q18 q19
path_questions M R j s room = sheet_questions M R ++ (ask 18 0 (q18 M R j s) ∷ ask 19 0 (q19 M R j room) ∷ [])

-- of a path line; no other line has one
unfoldable pub Shows : Kripke → (ℕ → Automaton) → Truths → Line → ℕ → (ℕ → ℕ) → (ℕ → ℕ) → ℕ → ℕ → Type 0
Shows K A above (signal i) s node state len back = ⊥
Shows K A above (negation i) s node state len back = ⊥
Shows K A above (either i k) s node state len back = ⊥
Shows K A above (some_path x arg) s node state len back = Lasso K (A x) above arg (A x).accepting s node state len back
Shows K A above (some_path_not x arg) s node state len back = Lasso K (A x) above arg (λ q. not ((A x).accepting q)) s node state len back
Shows K A above malformed s node state len back = ⊥

-- a path of the asked line from node s: places 1 to `len` of a list whose pair at place i is `node i` and `state i`
abbrev pub ShowsPath : List ℕ → List ℕ → ℕ → ℕ → (ℕ → ℕ) → (ℕ → ℕ) → ℕ → ℕ → Type 0
ShowsPath M R j s node state len back = Shows (kripke M) (automaton R) (TrueAt lent M R) (line lent R (asked R j)) s node state len back

-- the two parts of the list before and after the call; places count from 1, and records past the length are as before
pub record ShownPath (M R : List ℕ) (j s : ℕ) (nodes_before states_before nodes_after states_after : List ℕ) (len back : ℕ) : Type 0 where
  pub size-nodes : length nodes_after ≡ length nodes_before
  pub size-states : length states_after ≡ length states_before
  pub fits : len ≤ min (length nodes_after) (length states_after)
  pub shows : ShowsPath M R j s (λ i. word nodes_after (i - 1)) (λ i. word states_after (i - 1)) len back
  pub rest-nodes : (i : ℕ) → len ≤ i → word nodes_after i ≡ word nodes_before i
  pub rest-states : (i : ℕ) → len ≤ i → word states_after i ≡ word states_before i
