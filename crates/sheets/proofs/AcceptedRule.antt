-- What an accepted rule sheet gives, in any form: it has a line, every line passes question 15, and an automaton stays on its
-- chain along edges with nonzero masks, where no cycle is mixed.
use mathlib.Core.Path.{◌≡◌}
use Prim.Native.Nat.{ℕ, ◌^◌, ◌≤◌}
use native.Mathlib.Omega.{arith}
use mathlib.Core.List.{List, map}
use mathlib.Core.Bool.{Bool, not, ◌&&◌}
use lib.ListN.{length, get_or}
use lib.Dec.{T, not_T, leb, leb→le, ltb, eqb, eqb→eq}
use Rattle.sheets.specs.Format.{rule_header, operation_place}
use Rattle.sheets.specs.Words.{bit, all_of, member}
use Rattle.sheets.specs.Rules.{Form, states, automata, variables, initial, states_of, transitions, transitions_of, transition_target, mask, next_state, automaton, leads, transitions_fit, distinct, fits, unmixed, lines, line_word, line_fits, rule_refusal, q7, q9, automaton_fits, q12, q14, q15}
use Rattle.sheets.proofs.Tests.{and_left, and_right, and_both}
use Rattle.sheets.proofs.Search.{within-at, each_at, any_at, any-in, all-at}
use Rattle.sheets.proofs.Bits.{no-bit}
use Rattle.sheets.proofs.Chains.{chain_first, chain_head}
use Rattle.sheets.proofs.Questions.{RuleAnswers, rule-answers}

module _ (F : Form) (R : List ℕ) (accepted : rule_refusal F R ≡ 0) where
  answers : RuleAnswers F R
  answers = rule-answers F R accepted

  -- there is a line
  pub some-line : 1 ≤ lines R
  unfolding q7
  some-line =
      let sizes = leb rule_header (length R) && fits F.automata (automata R) && fits F.states (states R) && fits F.transitions (transitions R) in
      leb→le 1 (lines R) (and_right sizes (leb 1 (lines R)) (and_left (sizes && leb 1 (lines R)) (fits F.lines (lines R)) answers.seven))

  -- line j passes question 15
  pub line-fits : (j : ℕ) → 1 ≤ j → j ≤ lines R → T (line_fits F R j (line_word F R j operation_place))
  unfolding q15
  line-fits = each_at (lines R) _ answers.fifteen

  -- automaton x
  module _ (x : ℕ) (lo : 1 ≤ x) (hi : x ≤ automata R) where
    pub initial-in : (1 ≤ initial R x) × (initial R x ≤ states R)
    unfolding q9
    initial-in = within-at 1 (states R) (initial R x) (search (and_right, each_at (automata R) _ answers.nine x lo hi))

    -- its initial state is among its states
    pub initial-on : T (member (initial R x) (states_of R x))
    initial-on = let h = initial-in in chain_first (states R) (next_state R) (initial R x) (omega arith) h.0

    -- which is the first on its chain
    pub first-state : get_or (states_of R x) 0 0 ≡ initial R x
    first-state = let h = initial-in in chain_head (states R) (next_state R) (initial R x) (omega arith) h.0

    -- it stays on them, along edges with nonzero masks
    edge-fits : (q y : ℕ) → T (member q (states_of R x)) → T (member y (transitions_of R q)) → T (member (transition_target R y) (states_of R x))
    unfolding q12 automaton_fits transitions_fit
    edge-fits q y on t =
        let all = states_of R x in
        let f : ℕ → Bool = λ y. ltb (mask R y) (2 ^ (2 ^ variables R x)) && member (transition_target R y) all in
        let c : T (all_of all (λ q. transitions_fit R (variables R x) all (transitions_of R q))) = search (and_right, each_at (automata R) _ answers.twelve x lo hi) in
        let d = all-at all _ c q on in
        let g = all-at (transitions_of R q) f (and_left (all_of (transitions_of R q) f) (distinct (map (transition_target R) (transitions_of R q))) d) y t in
        search (and_right, g)

    -- no cycle on them is mixed
    pub not-mixed : T (unmixed R (states_of R x))
    unfolding q14
    not-mixed = each_at (automata R) _ answers.fourteen x lo hi

    pub goes_on : (q w q' : ℕ) → T (member q (states_of R x)) → T ((automaton R x).goes q w q') → T (member q' (states_of R x)) × T (leads R q q')
    unfolding automaton leads
    goes_on q w q' on t =
        let r = any_at (transitions_of R q) (λ y. bit (mask R y) w && eqb (transition_target R y) q') t in
        let y = r.0 in
        let b = and_left (bit (mask R y) w) (eqb (transition_target R y) q') r.2 in
        let c = and_right (bit (mask R y) w) (eqb (transition_target R y) q') r.2 in
        let n = not_T (eqb (mask R y) 0) (λ z. no-bit w (rw (eqb→eq (mask R y) 0 z) at b)) in (
          rw (eqb→eq (transition_target R y) q' c) at (edge-fits q y on r.1),
          any-in (transitions_of R q) _ y r.1 (and_both (not (eqb (mask R y) 0)) (eqb (transition_target R y) q') n c),
        )
