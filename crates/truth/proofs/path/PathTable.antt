-- The table of the path call: its own questions as the code asks them. Where the questions before it accept the sheets and the line,
-- 2048 pairs are room enough, so that more room than that changes no answer.
use mathlib.Core.Path.{◌≡◌, ap, ◌∙◌, sym}
use mathlib.Core.Logic.{⊎_elim}
use Prim.Native.Nat.{ℕ, zero, suc, ◌*◌, min, ◌≤◌}
use native.Mathlib.Omega.{arith}
use native.Mathlib.Nat.{mul-le-mul_left}
use mathlib.Core.List.{List, [], ◌∷◌}
use mathlib.Core.Bool.{Bool, ◌&&◌}
use borrow.Author.Tests.{le-leb, lt-leb}
use lib.Dec.{T, leb}
use Rattle.sheets.specs.Format.{operation_place, operand_place}
use Rattle.sheets.specs.Operations.{some_path_operation, some_path_not_operation}
use Rattle.sheets.specs.Words.{within}
use Rattle.sheets.specs.Questions.{Question, ask, first_no}
use Rattle.sheets.specs.Machine.{nodes, machine_refusal}
use Rattle.sheets.specs.Rules.{lent, lines, automata, line_word, line_fits, path_fits, rule_refusal}
use Rattle.sheets.specs.Positioned.{state_count}
use Rattle.sheets.specs.Sheets.{sheet_questions}
use Rattle.sheets.proofs.Tests.{and_left, and_right}
use Rattle.sheets.proofs.Search.{within-at, le-or-gt}
use Rattle.sheets.proofs.Questions.{all_yes, same_rest}
use Rattle.sheets.proofs.SheetTable.{both-accepted}
use Rattle.sheets.proofs.AcceptedMachine.{nodes-sized}
use Rattle.sheets.proofs.AcceptedRule.{line-fits}
use Rattle.sheets.proofs.PositionedStates.{few-positions}
use Rattle.truth.specs.Sizes.{pairs_most}
use Rattle.truth.specs.Path.{asked, q18, q19, path_questions}

-- the call's own questions
abbrev pub own_questions : List ℕ → List ℕ → ℕ → ℕ → ℕ → List Question
own_questions M R j s room = ask 18 0 (q18 M R j s) ∷ ask 19 0 (q19 M R j room) ∷ []

-- a path line of an accepted sheet names one of its automata
path-automaton : (R : List ℕ) (j op : ℕ) → T (within some_path_operation some_path_not_operation op) → T (line_fits lent R j op) → T (within 1 (automata R) (line_word lent R j operand_place))
unfolding line_fits path_fits
path-automaton R j zero k f = absurd k
path-automaton R j (suc zero) k f = absurd k
path-automaton R j (suc (suc zero)) k f = absurd k
path-automaton R j (suc (suc (suc zero))) k f = search (and_left, f)
path-automaton R j (suc (suc (suc (suc zero)))) k f = search (and_left, f)
path-automaton R j (suc (suc (suc (suc (suc op))))) k f = absurd f

module _ (M R : List ℕ) (j s : ℕ) (machine : machine_refusal M ≡ 0) (rules : rule_refusal lent R ≡ 0) (line_ok : T (q18 M R j s)) where
  abbrev k : ℕ
  k = asked R j

  abbrev x : ℕ
  x = line_word lent R k operand_place

  parts : T (within 1 (lines R) k && within 1 (nodes M) s && within some_path_operation some_path_not_operation (line_word lent R k operation_place))
  unfolding q18
  parts = line_ok

  pub line-within : (1 ≤ k) × (k ≤ lines R)
  line-within = within-at 1 (lines R) k (and_left (within 1 (lines R) k) (within 1 (nodes M) s) (and_left (within 1 (lines R) k && within 1 (nodes M) s) (within some_path_operation some_path_not_operation (line_word lent R k operation_place)) parts))

  pub automaton-within : (1 ≤ x) × (x ≤ automata R)
  automaton-within =
      within-at 1 (automata R) x
      (path-automaton R k (line_word lent R k operation_place) (and_right (within 1 (lines R) k && within 1 (nodes M) s) (within some_path_operation some_path_not_operation (line_word lent R k operation_place)) parts)
      (line-fits lent R rules k line-within.0 line-within.1))

  pub pairs-most : nodes M * state_count R x ≤ pairs_most
  pairs-most =
      let t = few-positions R rules x automaton-within.0 automaton-within.1 in
      let n = (nodes-sized M machine).1 in
      let most = mul-le-mul_left (nodes M) t in
      omega arith

least-room : (p room : ℕ) → p ≤ pairs_most → leb p (min room pairs_most) ≡ leb p room
least-room p room h = ⊎_elim (λ l. le-leb p (min room pairs_most) (omega arith) ∙ sym (le-leb p room l)) (λ l. lt-leb p (min room pairs_most) (omega arith) ∙ sym (lt-leb p room l)) (le-or-gt p room)

module _ (M R : List ℕ) (j s : ℕ) where
  abbrev line_on : List Question
  line_on = ask 18 0 (q18 M R j s) ∷ []

  abbrev room_on : ℕ → List Question
  room_on room = ask 19 0 (q19 M R j room) ∷ []

  room-same : (room : ℕ) → (first_no (sheet_questions M R)).number ≡ 0 → (first_no line_on).number ≡ 0 → first_no (room_on (min room pairs_most)) ≡ first_no (room_on room)
  unfolding q19
  room-same room sheets own =
      let both = both-accepted M R sheets in
      let most = pairs-most M R j s both.machine both.rules (all_yes line_on own).0 in
      ap (λ (b : Bool). first_no (ask 19 0 b ∷ [])) (least-room (nodes M * state_count R (line_word lent R (asked R j) operand_place)) room most)

  -- more room than that changes no answer
  pub room_most : (room : ℕ) → first_no (path_questions M R j s (min room pairs_most)) ≡ first_no (path_questions M R j s room)
  unfolding path_questions
  room_most room =
      same_rest (sheet_questions M R) (own_questions M R j s (min room pairs_most)) (own_questions M R j s room)
      (λ sheets. same_rest line_on (room_on (min room pairs_most)) (room_on room) (λ own. room-same room sheets own))
