-- The rule sheet: automata (document 002, definitions 1 and 2) and lines, and the questions headed Rules.
-- Every definition takes the sheet's form: its upper limits and the words of a line record. A sheet that is lent has the form
-- `lent`; a rule of the logic, of whatever length and automaton size, has a form `lifted L`, with no upper limit.
use Rattle.std.specs.Prelude.{ℕ, zero, suc, ◌+◌, ◌-◌, ◌^◌, List, [], ◌∷◌, ◌++◌, map, Bool, true, false, not, ◌&&◌, ◌||◌, length, leb, ltb, eqb}
use Rattle.sheets.specs.Format as Format
use Rattle.sheets.specs.Structures.{Automaton, Line, signal, negation, either, some_path, some_path_not, malformed}
use Rattle.sheets.specs.Operations.{Operands, one_signal, lines_above, automaton_with_lines, no_operands, operation}
use Rattle.sheets.specs.Words.{word, bit, within, each, all_of, any_of, member, how_many, chain, link}
use Rattle.sheets.specs.Records.{record_word}
use Rattle.sheets.specs.Questions.{Question, ask, first_no}

-- an upper limit of document 01, or none where it is lifted
pub data Limit : Type 0 where
  unlimited : Limit
  most : ℕ → Limit

-- a number is within a limit
unfoldable pub fits : Limit → ℕ → Bool
fits unlimited x = true
fits (most n) x = leb x n

-- the upper limits on k, m, e, l, v and the states of one automaton, and the words of a line record
pub record Form : Type 0 where
  pub automata : Limit
  pub states : Limit
  pub transitions : Limit
  pub lines : Limit
  pub variables : Limit
  pub chained : Limit
  pub line_words : ℕ

-- the form of a sheet that is lent: `chained` limits the states of one automaton
abbrev pub lent : Form
lent = record {
  automata = most Format.automata_most;
  states = most Format.states_most;
  transitions = most Format.transitions_most;
  lines = most Format.lines_most;
  variables = most Format.variables_most;
  chained = most Format.chained_most;
  line_words = Format.line_words;
}

-- a rule of the logic: no upper limit, and line records of L words
unfoldable pub lifted : ℕ → Form
lifted L = record { automata = unlimited; states = unlimited; transitions = unlimited; lines = unlimited; variables = unlimited; chained = unlimited; line_words = L }

-- the header: k, m, e and l; the e records of a rule sheet are called transitions here, for a machine sheet has edges too
abbrev pub automata : List ℕ → ℕ
automata R = word R 0

abbrev pub states : List ℕ → ℕ
states R = word R 1

abbrev pub transitions : List ℕ → ℕ
transitions R = word R 2

abbrev pub lines : List ℕ → ℕ
lines R = word R 3

-- word k of an automaton's, a state's, a transition's and a line's record; records count from 1
abbrev pub automaton_word : List ℕ → ℕ → ℕ → ℕ
automaton_word R x k = record_word R Format.rule_header Format.automaton_words x k

abbrev pub state_word : List ℕ → ℕ → ℕ → ℕ
state_word R q k = record_word R (Format.states_from (automata R)) Format.state_words q k

abbrev pub transition_word : List ℕ → ℕ → ℕ → ℕ
transition_word R y k = record_word R (Format.transitions_from (automata R) (states R)) Format.transition_words y k

-- where the lines begin
abbrev pub lines_from : List ℕ → ℕ
lines_from R = Format.lines_from (automata R) (states R) (transitions R)

abbrev pub line_word : Form → List ℕ → ℕ → ℕ → ℕ
line_word F R j k = record_word R (lines_from R) F.line_words j k

-- an automaton: its variables, its initial state, the states on its chain
abbrev pub variables : List ℕ → ℕ → ℕ
variables R x = automaton_word R x Format.variables_place

abbrev pub initial : List ℕ → ℕ → ℕ
initial R x = automaton_word R x Format.initial_place

-- the state after state q on its chain
abbrev pub next_state : List ℕ → ℕ → ℕ
next_state R q = state_word R q Format.next_state_place

abbrev pub states_of : List ℕ → ℕ → List ℕ
states_of R x = chain (states R) (next_state R) (initial R x)

-- the accepting word of state q is 1
abbrev pub accepting : List ℕ → ℕ → Bool
accepting R q = eqb (state_word R q Format.accepting_place) 1

-- the transitions out of a state (document 01's edges of a rule sheet): the first, the one after a transition, all; and a transition's
-- target and mask
abbrev pub first_transition : List ℕ → ℕ → ℕ
first_transition R q = state_word R q Format.first_transition_place

abbrev pub next_transition : List ℕ → ℕ → ℕ
next_transition R y = transition_word R y Format.next_transition_place

abbrev pub transitions_of : List ℕ → ℕ → List ℕ
transitions_of R q = chain (transitions R) (next_transition R) (first_transition R q)

abbrev pub transition_target : List ℕ → ℕ → ℕ
transition_target R y = transition_word R y Format.transition_target_place

abbrev pub mask : List ℕ → ℕ → ℕ
mask R y = transition_word R y Format.mask_place

-- the automaton of record x: at a valuation it takes the transition whose mask has it
unfoldable pub automaton : List ℕ → ℕ → Automaton
unfolding any_of bit
automaton R x = record {
  variables = variables R x;
  initial = initial R x;
  accepting = accepting R;
  goes = λ q w q'. any_of (transitions_of R q) (λ y. bit (mask R y) w && eqb (transition_target R y) q');
}

-- line j, if its operation is op
unfoldable pub line_of : Form → List ℕ → ℕ → ℕ → Line
unfolding operation
line_of F R j op = (operation op).makes (line_word F R j)

unfoldable pub line : Form → List ℕ → ℕ → Line
unfolding line_of
line F R j = line_of F R j (line_word F R j Format.operation_place)

-- ---- condition 1, as a test that is computed (`Cycles` has it in the reader's terms)

-- a transition with a nonzero mask leads from p to q
unfoldable pub leads : List ℕ → ℕ → ℕ → Bool
unfolding any_of
leads R p q = any_of (transitions_of R p) (λ y. not (eqb (mask R y) 0) && eqb (transition_target R y) q)

-- the elements that pass
unfoldable pub keep : Bool → ℕ → List ℕ → List ℕ
keep true q qs = q ∷ qs
keep false q qs = qs

unfoldable pub passing : (ℕ → Bool) → List ℕ → List ℕ
unfolding keep
passing p [] = []
passing p (q ∷ qs) = keep (p q) q (passing p qs)

-- the states among `all` that walks of 1 to f + 1 such edges reach from p
unfoldable pub reached : List ℕ → List ℕ → ℕ → ℕ → List ℕ
unfolding passing leads member any_of
reached R all p zero = passing (leads R p) all
reached R all p (suc f) = passing (λ q. member q (reached R all p f) || any_of (reached R all p f) (λ r. leads R r q)) all

-- some walk of such edges leads from p to q: as many steps as there are states are enough
unfoldable pub walks : List ℕ → List ℕ → ℕ → ℕ → Bool
unfolding member reached
walks R all p q = member q (reached R all p (length all))

-- no cycle meets an accepting and a non-accepting state
unfoldable pub unmixed : List ℕ → List ℕ → Bool
unfolding all_of walks
unmixed R all = all_of all (λ p. all_of all (λ q. not (accepting R p && not (accepting R q) && walks R all p q && walks R all q p)))

-- ---- the questions

-- no element is there twice
unfoldable pub distinct : List ℕ → Bool
unfolding member
distinct [] = true
distinct (x ∷ xs) = not (member x xs) && distinct xs

-- "Are there at least 4 words, and are k, m, e, l in range?"
unfoldable pub q7 : Form → List ℕ → Bool
unfolding fits
q7 F R =
    leb Format.rule_header (length R) && fits F.automata (automata R) && fits F.states (states R) && fits F.transitions (transitions R)
    && leb 1 (lines R) && fits F.lines (lines R)

-- "Is the length exactly 4 + 2k + 3m + 3e + 6l?"
unfoldable pub q8 : Form → List ℕ → Bool
q8 F R = eqb (length R) (Format.rules_length F.line_words (automata R) (states R) (transitions R) (lines R))

-- "Are v and the first state (1 to m) in range?"
unfoldable pub automaton_in_range : Form → List ℕ → ℕ → Bool
unfolding fits
automaton_in_range F R x = fits F.variables (variables R x) && within 1 (states R) (initial R x)

unfoldable pub q9 : Form → List ℕ → Bool
unfolding each automaton_in_range
q9 F R = each (automata R) (automaton_in_range F R)

-- "Is each accepting word 0 or 1, first edge in 1 to e, next state zero, or above its own number and at most m?"
abbrev pub state_in_range : List ℕ → ℕ → Bool
state_in_range R q =
    leb (state_word R q Format.accepting_place) 1 && within 1 (transitions R) (first_transition R q) && link (states R) q (next_state R q)

unfoldable pub q10 : Form → List ℕ → Bool
unfolding each
q10 F R = each (states R) (state_in_range R)

-- "The same for edges: target in 1 to m, next zero or above and at most e?"
abbrev pub transition_in_range : List ℕ → ℕ → Bool
transition_in_range R y = within 1 (states R) (transition_target R y) && link (transitions R) y (next_transition R y)

unfoldable pub q11 : Form → List ℕ → Bool
unfolding each
q11 F R = each (transitions R) (transition_in_range R)

-- of the transitions `ys` out of a state of the automaton with the states `all` and v variables
unfoldable pub transitions_fit : List ℕ → ℕ → List ℕ → List ℕ → Bool
unfolding all_of member distinct
transitions_fit R v all ys = all_of ys (λ y. ltb (mask R y) (2 ^ (2 ^ v)) && member (transition_target R y) all) && distinct (map (transition_target R) ys)

-- automaton x: few enough states, and transitions that fit out of each of them
unfoldable pub automaton_fits : Form → List ℕ → ℕ → Bool
unfolding fits all_of transitions_fit
automaton_fits F R x =
    fits F.chained (length (states_of R x)) && all_of (states_of R x) (λ q. transitions_fit R (variables R x) (states_of R x) (transitions_of R q))

-- "Has each automaton at most 16 states, its masks below 2^(2^v), and out of each of its states only targets on its own chain, none twice?"
unfoldable pub q12 : Form → List ℕ → Bool
unfolding each automaton_fits
q12 F R = each (automata R) (automaton_fits F R)

-- every valuation is in the mask of exactly one of the transitions
unfoldable pub total : List ℕ → ℕ → List ℕ → Bool
unfolding each how_many bit
total R v ys = each (2 ^ v) (λ w. eqb (how_many ys (λ y. bit (mask R y) (w - 1))) 1)

unfoldable pub automaton_total : List ℕ → ℕ → Bool
unfolding all_of total
automaton_total R x = all_of (states_of R x) (λ q. total R (variables R x) (transitions_of R q))

-- "Do the masks out of each of its states exclude each other and together hold every valuation?"
unfoldable pub q13 : Form → List ℕ → Bool
unfolding each automaton_total
q13 F R = each (automata R) (automaton_total R)

-- "Does condition 1 hold?"
unfoldable pub q14 : Form → List ℕ → Bool
unfolding each unmixed
q14 F R = each (automata R) (λ x. unmixed R (states_of R x))

-- the words of line j from word c on are zero, and the record is long enough for those before it
unfoldable pub unused : Form → List ℕ → ℕ → ℕ → Bool
unfolding each
unused F R j c = leb c F.line_words && each (F.line_words - c) (λ i. eqb (line_word F R j (c + i - 1)) 0)

-- words c + 1 to c + n of line j refer to lines above it
unfoldable pub refers_above : Form → List ℕ → ℕ → ℕ → ℕ → Bool
unfolding each
refers_above F R j c n = each n (λ i. within 1 (j - 1) (line_word F R j (c + i)))

-- the words after the operation of a path line: an automaton, a line above for each of its variables, then zeros
unfoldable pub path_fits : Form → List ℕ → ℕ → Bool
unfolding unused refers_above
path_fits F R j =
    within 1 (automata R) (line_word F R j Format.operand_place) && refers_above F R j Format.operand_place (variables R (line_word F R j Format.operand_place))
    && unused F R j (Format.argument_place (variables R (line_word F R j Format.operand_place)))

-- the words of line j are such operands, and unused words are zero
unfoldable pub operands_fit : Form → List ℕ → ℕ → Operands → Bool
unfolding unused refers_above path_fits
operands_fit F R j one_signal = within 1 Format.signals_most (line_word F R j Format.operand_place) && unused F R j (Format.operand_place + 1)
operands_fit F R j (lines_above n) = refers_above F R j Format.operation_place n && unused F R j (Format.operand_place + n)
operands_fit F R j automaton_with_lines = path_fits F R j
operands_fit F R j no_operands = false

-- line j, if its operation is op
unfoldable pub line_fits : Form → List ℕ → ℕ → ℕ → Bool
unfolding operands_fit operation
line_fits F R j op = operands_fit F R j (operation op).operands

-- "Is each operation 0 to 4, each unused word zero, each signal number in 1 to 16, automaton in 1 to k, and line referred to from 1 to
-- one below its own?"
unfoldable pub q15 : Form → List ℕ → Bool
unfolding each line_fits
q15 F R = each (lines R) (λ j. line_fits F R j (line_word F R j Format.operation_place))

-- the questions headed Rules, in order: those of the records, those of the automata, and that of the lines
unfoldable pub record_questions : Form → List ℕ → List Question
unfolding q7 q8 q9 q10 q11
record_questions F R = ask 7 0 (q7 F R) ∷ ask 8 0 (q8 F R) ∷ ask 9 0 (q9 F R) ∷ ask 10 0 (q10 F R) ∷ ask 11 0 (q11 F R) ∷ []

unfoldable pub automata_questions : Form → List ℕ → List Question
unfolding q12 q13 q14
automata_questions F R = ask 12 0 (q12 F R) ∷ ask 13 0 (q13 F R) ∷ ask 14 0 (q14 F R) ∷ []

abbrev pub line_questions : Form → List ℕ → List Question
line_questions F R = ask 15 0 (q15 F R) ∷ []

unfoldable pub rule_questions : Form → List ℕ → List Question
unfolding record_questions automata_questions q15
rule_questions F R = record_questions F R ++ (automata_questions F R ++ line_questions F R)

-- the number of the question that refuses a rule sheet; 0, and the sheet is accepted, where none does
abbrev pub rule_refusal : Form → List ℕ → ℕ
rule_refusal F R = (first_no (rule_questions F R)).number

-- a line that is a signal has a number of at most a
unfoldable pub signal_most : ℕ → Line → Bool
signal_most a (signal i) = leb i a
signal_most a (negation j) = true
signal_most a (either i j) = true
signal_most a (some_path x arg) = true
signal_most a (some_path_not x arg) = true
signal_most a malformed = true

-- question 16: the sheet's signal numbers are at most a
unfoldable pub over_signals : Form → ℕ → List ℕ → Bool
unfolding each line signal_most
over_signals F a R = each (lines R) (λ j. signal_most a (line F R j))
