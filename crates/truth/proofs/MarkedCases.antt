-- The marked cases of document 01 on truth: (e) Even on M3, (f) automata with no variable, (k) the percent of 1 of 8 (and of 3 of 8). Of (e)
-- and (f) also what labelling answers.
use mathlib.Core.Path.{◌≡◌, refl, sym, ap, subst, ◌∙◌}
use mathlib.Core.Logic.{◌↔◌}
use Prim.Native.Nat.{ℕ, zero, suc, ◌-◌, ◌≤◌, ◌<◌}
use native.Mathlib.Nat.{add-zero}
use native.Mathlib.Numerals.{add-one}
use native.Mathlib.Omega.{arith}
use mathlib.Core.List.{List}
use mathlib.Core.Bool.{Bool, true, false, ◌&&◌, ◌||◌}
use borrow.Author.Tests.{le-leb, lt-leb, ne_eqb}
use lib.Dec.{T, leb, eqb, eqb→eq}
use Rattle.sheets.specs.Words.{word, bit, each, all_of, any_of, member, indicator, sum, how_many, chain}
use Rattle.sheets.specs.Records.{record_word}
use Rattle.sheets.specs.Questions.{none, first_no}
use Rattle.sheets.specs.Machine.{nodes, kripke, machine_refusal}
use Rattle.sheets.specs.Rules.{fits, lent, lines, accepting, leads, keep, passing, reached, walks, unmixed, distinct, transitions_fit, automaton_fits, total, automaton_total, unused, refers_above, path_fits, line_fits, record_questions, automata_questions, rule_questions, rule_refusal, over_signals, q7, q8, q9, q10, q11, q12, q13, q14, q15, automaton, line_of, line}
use Rattle.sheets.specs.Worked.{M3}
use Rattle.sheets.proofs.AcceptedMachine.{first_next, first_edge-leads, edge_stays, nodes-sized, start-node}
use Rattle.sheets.proofs.Counting.{number}
use Rattle.sheets.proofs.WorkedSheets.{machine-cases}
use Rattle.truth.specs.Truth.{Valuation, SomePath, Means, TrueWithin, True, TrueAt, Keeps}
use Rattle.truth.specs.Labelling.{percent}
use Rattle.truth.specs.inner.Product.{argument}
use Rattle.truth.specs.Worked.{EvenSheet, OneState, Labels}
use Rattle.truth.proofs.labelling.StartRows.{some-start}
use Rattle.truth.proofs.labelling.LabelCounts.{number_same}
use Rattle.truth.proofs.labelling.Percents.{percent-exact}
use Rattle.truth.proofs.labelling.LabelledSheets.{labels}

-- ---- (k)

pub case-k : percent 1 8 ≡ 12
unfolding percent
case-k = refl

pub three-of-eight : percent 3 8 ≡ 38
unfolding percent
three-of-eight = refl

-- where one transition is left, it is the one taken
only : (a b : Bool) → T ((a && b) || false) → T b
only true true t = tt
only true false t = t
only false b t = absurd t

-- ---- (f)

-- the rule sheets are accepted
pub one-accepted : rule_refusal lent (OneState 1) ≡ 0
unfolding rule_questions record_questions automata_questions first_no none q7 q8 q9 q10 q11 q12 q13 q14 q15 fits leads keep passing reached walks unmixed distinct transitions_fit automaton_fits total automaton_total unused refers_above path_fits line_fits record_word bit each all_of any_of member indicator how_many chain
one-accepted = refl

pub none-accepted : rule_refusal lent (OneState 0) ≡ 0
unfolding rule_questions record_questions automata_questions first_no none q7 q8 q9 q10 q11 q12 q13 q14 q15 fits leads keep passing reached walks unmixed distinct transitions_fit automaton_fits total automaton_total unused refers_above path_fits line_fits record_word bit each all_of any_of member indicator how_many chain
none-accepted = refl

each-one : (n : ℕ) → number n (λ s. true) ≡ n
unfolding number sum indicator
each-one zero = refl
each-one (suc n) = add-one (number n (λ s. true)) ∙ ap suc (each-one n)

none_pass : (n : ℕ) → number n (λ s. false) ≡ 0
unfolding number sum indicator
none_pass zero = refl
none_pass (suc n) = add-zero (number n (λ s. false)) ∙ none_pass n

all_pass : (n : ℕ) → number n (λ s. leb s n) ≡ n
all_pass n = number_same n (λ s. leb s n) (λ s. true) (λ s lo hi. le-leb s n hi) ∙ each-one n

module _ (M : List ℕ) (accepted : machine_refusal M ≡ 0) where
  -- the first edge of each node, for ever
  follow : ℕ → ℕ → ℕ
  follow s zero = s
  follow s (suc i) = first_next M (follow s i)

  follow-in : (s i : ℕ) → 1 ≤ s → s ≤ nodes M → (1 ≤ follow s i) × (follow s i ≤ nodes M)
  unfolding follow
  follow-in s zero lo hi = (lo, hi)
  follow-in s (suc i) lo hi =
      let h = follow-in s i lo hi in
      edge_stays M accepted (follow s i) h.0 h.1 (first_next M (follow s i)) (first_edge-leads M accepted (follow s i) h.0 h.1)

  pub case-f-true : (s : ℕ) → 1 ≤ s → s ≤ nodes M → TrueAt lent M (OneState 1) 1 s
  unfolding TrueAt True TrueWithin Means line line_of automaton record_word bit any_of chain Valuation follow
  case-f-true s lo hi = record {
    node = follow s;
    state = λ i. 1;
    valuation = λ i. 0;
    starts = refl;
    begins = refl;
    moves = λ i. let h = follow-in s i lo hi in first_edge-leads M accepted (follow s i) h.0 h.1;
    values = λ i. (omega arith, λ i l. absurd (omega arith));
    goes = λ i. tt;
    recurs = λ i. (i, omega arith, tt);
  }

  -- the automaton never leaves its one state
  module _ (s : ℕ) (p : SomePath (kripke M) (automaton (OneState 0) 1) (TrueWithin (kripke M) (automaton (OneState 0)) (line lent (OneState 0)) 0)
      (argument (OneState 0) 1) (accepting (OneState 0)) s) where
    stays-one : (i : ℕ) → p.state i ≡ 1
    unfolding automaton record_word chain any_of
    stays-one zero = p.begins
    stays-one (suc i) =
        let g : T ((automaton (OneState 0) 1).goes 1 (p.valuation i) (p.state (suc i))) =
        subst (λ (q : ℕ). T ((automaton (OneState 0) 1).goes q (p.valuation i) (p.state (suc i)))) (stays-one i) (p.goes i) in
        sym (eqb→eq 1 (p.state (suc i)) (only (bit 1 (p.valuation i)) (eqb 1 (p.state (suc i))) g))

    never : ⊥
    unfolding record_word
    never = let r = p.recurs 0 in rw (stays-one r.0) at r.2

  pub case-f-false : (s : ℕ) → TrueAt lent M (OneState 0) 1 s → ⊥
  unfolding TrueAt True TrueWithin Means line line_of record_word automaton
  case-f-false s p = never s p

  -- labelling answers 100 percent of the nodes, or none
  one_line : (b j s : ℕ) → 1 ≤ j → j ≤ lines (OneState b) → j ≡ 1
  unfolding word
  one_line b j s lo hi = omega arith

  pub case-f-kept : Labels M (OneState 1) (λ j s. leb s (nodes M)) true (nodes M) 100
  unfolding over_signals record_word each Keeps
  case-f-kept =
      labels M (OneState 1) accepted one-accepted tt (λ j s. leb s (nodes M))
      (λ j s lo hi l h. let e : j ≡ 1 = one_line 1 j s lo hi in (λ t. rw e (case-f-true s l h), λ t. subst T (sym (le-leb s (nodes M) h)) tt))
      (λ j s over. lt-leb s (nodes M) over) true (λ t s k. let h = start-node M s k in case-f-true s h.0 h.1, λ k. tt) (nodes M) (all_pass (nodes M)) 100
      (percent-exact (nodes M) (nodes M) 100 (nodes-sized M accepted).0 refl)

  pub case-f-broken : Labels M (OneState 0) (λ j s. false) false 0 0
  unfolding over_signals record_word each Keeps
  case-f-broken =
      labels M (OneState 0) accepted none-accepted tt (λ j s. false)
      (λ j s lo hi l h. let e : j ≡ 1 = one_line 0 j s lo hi in (λ t. absurd t, λ t. case-f-false s (rw e at t))) (λ j s over. refl) false
      (λ t. absurd t, λ k. let start = some-start M accepted in case-f-false start.0 (k start.0 start.1)) 0 (none_pass (nodes M)) 0
      (percent-exact 0 (nodes M) 0 (nodes-sized M accepted).0 (omega arith))

-- ---- (e)

-- nodes and states in turn
turn : ℕ → ℕ
turn zero = 1
turn (suc zero) = 2
turn (suc (suc i)) = turn i

pub case-e-true : TrueAt lent M3 EvenSheet 2 1
unfolding TrueAt True TrueWithin Means line line_of automaton record_word bit any_of chain Valuation kripke turn
case-e-true = record {
  node = turn;
  state = turn;
  valuation = λ i. 2 - turn i;
  starts = refl;
  begins = refl;
  moves = moves;
  values = values;
  goes = goes;
  recurs = λ i. (i, omega arith, good i);
}
  where
    moves : (i : ℕ) → T ((kripke M3).edge (turn i) (turn (suc i)))
    moves zero = tt
    moves (suc zero) = tt
    moves (suc (suc i)) = moves i

    values : (i : ℕ) → Valuation (TrueWithin (kripke M3) (automaton EvenSheet) (line lent EvenSheet) 1) 1 (argument EvenSheet 2) (turn i) (2 - turn i)
    values zero = (omega arith, elim [ zero ↦ λ l. (λ t. tt, λ t. tt) | suc k ↦ λ l. absurd (omega arith) ])
    values (suc zero) = (omega arith, elim [ zero ↦ λ l. (λ t. absurd t, λ t. absurd t) | suc k ↦ λ l. absurd (omega arith) ])
    values (suc (suc i)) = values i

    goes : (i : ℕ) → T ((automaton EvenSheet 1).goes (turn i) (2 - turn i) (turn (suc i)))
    goes zero = tt
    goes (suc zero) = tt
    goes (suc (suc i)) = goes i

    good : (i : ℕ) → T (accepting EvenSheet (turn i))
    good zero = tt
    good (suc zero) = tt
    good (suc (suc i)) = good i

-- from node 2 the automaton is in state 3, which does not accept, after one step and for ever
module _ (p : SomePath (kripke M3) (automaton EvenSheet 1) (TrueWithin (kripke M3) (automaton EvenSheet) (line lent EvenSheet) 1)
    (argument EvenSheet 2) (accepting EvenSheet) 2) where
  -- signal 1 is not set at node 2, so the first valuation is 0
  first-valuation : p.valuation 0 ≡ 0
  unfolding Valuation TrueWithin Means line line_of automaton record_word bit kripke
  first-valuation =
      let v = subst (λ (s : ℕ). Valuation (TrueWithin (kripke M3) (automaton EvenSheet) (line lent EvenSheet) 1) 1 (argument EvenSheet 2) s (p.valuation 0)) p.starts (p.values 0) in
      only_zero (p.valuation 0) v.0 (v.1 0 (omega arith)).0
    where
      only_zero : (w : ℕ) → w < 2 → (T (bit w 0) → ⊥) → w ≡ 0
      only_zero zero l h = refl
      only_zero (suc zero) l h = absurd (h tt)
      only_zero (suc (suc w)) l h = absurd (omega arith)

  third : (i : ℕ) → p.state (suc i) ≡ 3
  unfolding automaton record_word chain any_of bit
  third zero =
      let g = subst (λ (q : ℕ). T ((automaton EvenSheet 1).goes q (p.valuation 0) (p.state 1))) p.begins (p.goes 0) in
      let h = subst (λ (w : ℕ). T ((automaton EvenSheet 1).goes 1 w (p.state 1))) first-valuation g in
      sym (eqb→eq 3 (p.state 1) (only true (eqb 3 (p.state 1)) h))
  third (suc i) =
      let g = subst (λ (q : ℕ). T ((automaton EvenSheet 1).goes q (p.valuation (suc i)) (p.state (suc (suc i))))) (third i) (p.goes (suc i)) in
      sym (eqb→eq 3 (p.state (suc (suc i))) (only (bit 3 (p.valuation (suc i))) (eqb 3 (p.state (suc (suc i)))) g))

  no-path : ⊥
  unfolding record_word
  no-path = let r = p.recurs 1 in ends r.0 r.1 r.2
    where
      ends : (k : ℕ) → 1 ≤ k → T (accepting EvenSheet (p.state k)) → ⊥
      ends zero l t = absurd (omega arith)
      ends (suc k) l t = rw (third k) at t

pub case-e-false : TrueAt lent M3 EvenSheet 2 2 → ⊥
unfolding TrueAt True TrueWithin Means line line_of record_word automaton
case-e-false p = no-path p

pub even-accepted : rule_refusal lent EvenSheet ≡ 0
unfolding rule_questions record_questions automata_questions first_no none q7 q8 q9 q10 q11 q12 q13 q14 q15 fits leads keep passing reached walks unmixed distinct transitions_fit automaton_fits total automaton_total unused refers_above path_fits line_fits record_word bit each all_of any_of member indicator how_many chain
even-accepted = refl

-- line 1 is signal 1, which node 1 alone has
signal-on : TrueAt lent M3 EvenSheet 1 1
unfolding TrueAt True TrueWithin Means line line_of record_word kripke bit
signal-on = tt

signal-off : TrueAt lent M3 EvenSheet 1 2 → ⊥
unfolding TrueAt True TrueWithin Means line line_of record_word kripke bit
signal-off t = t

even-truth : (j s : ℕ) → 1 ≤ j → j ≤ 2 → 1 ≤ s → s ≤ 2 → T (eqb s 1) ↔ TrueAt lent M3 EvenSheet j s
even-truth zero s lo hi l h = absurd (omega arith)
even-truth (suc j) zero lo hi l h = absurd (omega arith)
even-truth (suc zero) (suc zero) lo hi l h = (λ t. signal-on, λ t. tt)
even-truth (suc zero) (suc (suc zero)) lo hi l h = (λ t. absurd t, λ t. absurd (signal-off t))
even-truth (suc (suc zero)) (suc zero) lo hi l h = (λ t. case-e-true, λ t. tt)
even-truth (suc (suc zero)) (suc (suc zero)) lo hi l h = (λ t. absurd t, λ t. absurd (case-e-false t))
even-truth (suc zero) (suc (suc (suc s))) lo hi l h = absurd (omega arith)
even-truth (suc (suc zero)) (suc (suc (suc s))) lo hi l h = absurd (omega arith)
even-truth (suc (suc (suc j))) (suc s) lo hi l h = absurd (omega arith)

-- node 1 alone starts
even-kept : (s : ℕ) → 1 ≤ s → s ≤ 2 → T ((kripke M3).start s) → TrueAt lent M3 EvenSheet 2 s
unfolding kripke record_word
even-kept zero lo hi k = absurd (omega arith)
even-kept (suc zero) lo hi k = case-e-true
even-kept (suc (suc zero)) lo hi k = absurd k
even-kept (suc (suc (suc s))) lo hi k = absurd (omega arith)

pub case-e : Labels M3 EvenSheet (λ j s. eqb s 1) true 1 50
unfolding over_signals record_word each number sum indicator percent Keeps
case-e =
    labels M3 EvenSheet machine-cases.m3 even-accepted tt (λ j s. eqb s 1) even-truth (λ j s over. ne_eqb s 1 (λ e. omega arith)) true
    (λ t s k. let h = start-node M3 s k in even-kept s h.0 h.1 k, λ k. tt) 1 refl 50 refl
