-- The automata of an accepted rule sheet, by positions, are sound; and their record numbers name the states: by names or by positions, the
-- automaton does the same.
use mathlib.Core.Path.{◌≡◌, refl, sym, ap, ◌∙◌}
use mathlib.Core.Logic.{⊎_elim}
use Prim.Native.Nat.{ℕ, ◌+◌, ◌-◌, ◌^◌, ◌≤◌, ◌<◌}
use native.Mathlib.Omega.{arith}
use mathlib.Core.List.{List, [], ◌∷◌}
use mathlib.Core.Bool.{Bool, false, not, ◌&&◌}
use lib.Dec.{T, T_not, not_T, eqb, eqb→eq, eqb_refl}
use Rattle.sheets.specs.Format.{variables_most, chained_most}
use Rattle.sheets.specs.Words.{bit, within, any_of, member, indicator, how_many}
use Rattle.sheets.specs.Structures.{Automaton}
use Rattle.sheets.specs.Cycles.{Walk, step, more, May}
use Rattle.sheets.specs.Rules.{Form, lent, automata, variables, initial, states_of, transitions_of, transition_target, mask, automaton, rule_refusal, total, automaton_total, q13}
use Rattle.sheets.specs.Sound.{OneTo, MoveUnder, Sound}
use Rattle.sheets.specs.Positioned.{state_count, state_of, positioned}
use Rattle.sheets.proofs.Tests.{and_left, and_right, and_both, test}
use Rattle.sheets.proofs.Search.{within-at, within_in, each_at, any_at, any-in, all-at}
use Rattle.sheets.proofs.Counting.{how_many-mono, how_many-strict}
use Rattle.sheets.proofs.Positions.{place_in, place_of}
use Rattle.sheets.proofs.Questions.{rule-answers}
use Rattle.sheets.proofs.AcceptedRule.{initial-on, first-state, goes_on, not-mixed}
use Rattle.sheets.proofs.RisingChains.{one-position}
use Rattle.sheets.proofs.Walks.{unmixed-sound}
use Rattle.sheets.proofs.AutomatonLoops.{few-variables}
use Rattle.sheets.proofs.ReachedPositions.{few-states}

-- the states 1 to n of B have names that are states of A, and B goes where A goes
pub record Named (A B : Automaton) (n : ℕ) (name : ℕ → ℕ) : Type 0 where
  pub variables : A.variables ≡ B.variables
  pub begins : name B.initial ≡ A.initial
  pub accepting : (q : ℕ) → B.accepting q ≡ A.accepting (name q)
  pub goes : (p w q : ℕ) → T (B.goes p w q) → T (A.goes (name p) w (name q))
  -- what A goes to has a name
  pub coded : (p w r : ℕ) → OneTo n p → T (A.goes (name p) w r) → (q : ℕ) × OneTo n q × (name q ≡ r) × T (B.goes p w q)
  pub once : (p q : ℕ) → OneTo n p → OneTo n q → name p ≡ name q → p ≡ q

-- ---- where one element passes

passing-counted : (ys : List ℕ) (p : ℕ → Bool) (y : ℕ) → T (member y ys) → T (p y) → 1 ≤ how_many ys p
passing-counted ys p y m t = omega (arith, how_many-strict ys (λ x. false) p (λ x m f. absurd f) y m tt t)

only_one : (ys : List ℕ) (p : ℕ → Bool) → how_many ys p ≡ 1 → (y z : ℕ) → T (member y ys) → T (member z ys) → T (p y) → T (p z) → y ≡ z
only_one ys p e y z m n t u = ⊎_elim (eqb→eq y z) (λ d. absurd (omega (arith, two d))) (test (eqb y z))
  where
    other : ℕ → Bool
    other x = p x && not (eqb x z)

    two : T (not (eqb y z)) → 2 ≤ how_many ys p
    two d =
        let fewer = how_many-strict ys other p (λ x m h. and_left (p x) (not (eqb x z)) h) z n
        (not_T (other z) (λ h. T_not (eqb z z) (and_right (p z) (not (eqb z z)) h) (eqb_refl z))) u in
        omega (arith, fewer, passing-counted ys other y m (and_both (p y) (not (eqb y z)) t d))

none-counted : (ys : List ℕ) → how_many ys (λ y. false) ≡ 0
unfolding how_many indicator
none-counted [] = refl
none-counted (y ∷ ys) = omega (arith, none-counted ys)

one_passes : (ys : List ℕ) (p : ℕ → Bool) → how_many ys p ≡ 1 → (y : ℕ) × T (member y ys) × T (p y)
one_passes ys p e =
    ⊎_elim (any_at ys p)
    (λ n. absurd (omega (arith, none-counted ys, how_many-mono ys p (λ y. false) (λ y m t. T_not (any_of ys p) n (any-in ys p y m t)))))
    (test (any_of ys p))

-- a walk, its states renamed
walk-image : {may may' : ℕ → ℕ → Type 0} (f : ℕ → ℕ) → ((p q : ℕ) → may p q → may' (f p) (f q)) → {p q : ℕ} → Walk may p q → Walk may' (f p) (f q)
walk-image f g {p} {q} (step m) = step (g p q m)
walk-image f g {p} {q} (more {q = r} w m) = more (walk-image f g w) (g r q m)

-- ---- the automaton of record x

module _ (F : Form) (R : List ℕ) (accepted : rule_refusal F R ≡ 0) (x : ℕ) (lo : 1 ≤ x) (hi : x ≤ automata R) where
  abbrev all : List ℕ
  all = states_of R x

  abbrev n : ℕ
  n = state_count R x

  abbrev st : ℕ → ℕ
  st = state_of R x

  on_chain : (q : ℕ) → OneTo n q → T (member (st q) all)
  on_chain q h = place_in all (q - 1) (omega arith)

  -- a state on the chain has a position, and only one
  position : (r : ℕ) → T (member r all) → (q : ℕ) × OneTo n q × (st q ≡ r)
  position r m =
      let l = place_of all r m in
      let e : l.0 + 1 - 1 ≡ l.0 = omega arith in
      (l.0 + 1, (omega arith, omega (arith, l.1)), rw e l.2)

  same-position : (p q : ℕ) → OneTo n p → OneTo n q → st p ≡ st q → p ≡ q
  same-position p q h k e = omega (arith, one-position F R accepted x lo hi (p - 1) (q - 1) (omega arith) (omega arith) e)

  first : st 1 ≡ initial R x
  first = first-state F R accepted x lo hi

  some-state : 1 ≤ n
  some-state = omega (arith, (place_of all (initial R x) (initial-on F R accepted x lo hi)).1)

  -- question 13: one transition out of q is taken under w
  one-taken : (q w : ℕ) → T (member q all) → w < 2 ^ variables R x → how_many (transitions_of R q) (λ y. bit (mask R y) w) ≡ 1
  unfolding q13 automaton_total total
  one-taken q w on l =
      let t = all-at all (λ q. total R (variables R x) (transitions_of R q)) (each_at (automata R) (automaton_total R) (rule-answers F R accepted).thirteen x lo hi) q on in
      let e : w + 1 - 1 ≡ w = omega arith in
      let u = each_at (2 ^ variables R x) (λ w. eqb (how_many (transitions_of R q) (λ y. bit (mask R y) (w - 1))) 1) t (w + 1) (omega arith) (omega arith) in
      eqb→eq (how_many (transitions_of R q) (λ y. bit (mask R y) w)) 1 (rw e at u)

  goes_some : (q w : ℕ) → T (member q all) → w < 2 ^ variables R x → (q' : ℕ) × T ((automaton R x).goes q w q')
  unfolding automaton
  goes_some q w on l =
      let y = one_passes (transitions_of R q) (λ y. bit (mask R y) w) (one-taken q w on l) in
      let q' = transition_target R y.0 in
      (q', any-in (transitions_of R q) (λ y. bit (mask R y) w && eqb (transition_target R y) q') y.0 y.1 (and_both (bit (mask R y.0) w) (eqb q' q') y.2 (eqb_refl q')))

  goes_one : (q w q' q'' : ℕ) → T (member q all) → w < 2 ^ variables R x → T ((automaton R x).goes q w q') → T ((automaton R x).goes q w q'') → q' ≡ q''
  unfolding automaton
  goes_one q w q' q'' on l g h =
      let y = any_at (transitions_of R q) (λ y. bit (mask R y) w && eqb (transition_target R y) q') g in
      let z = any_at (transitions_of R q) (λ y. bit (mask R y) w && eqb (transition_target R y) q'') h in
      let b = and_left (bit (mask R y.0) w) (eqb (transition_target R y.0) q') y.2 in
      let c = and_left (bit (mask R z.0) w) (eqb (transition_target R z.0) q'') z.2 in
      let d = eqb→eq (transition_target R y.0) q' (and_right (bit (mask R y.0) w) (eqb (transition_target R y.0) q') y.2) in
      let e = eqb→eq (transition_target R z.0) q'' (and_right (bit (mask R z.0) w) (eqb (transition_target R z.0) q'') z.2) in
      sym d ∙ ap (transition_target R) (only_one (transitions_of R q) (λ y. bit (mask R y) w) (one-taken q w on l) y.0 z.0 y.1 z.1 b c) ∙ e

  -- ---- by positions

  goes_in : (p w q : ℕ) → OneTo n q → T ((automaton R x).goes (st p) w (st q)) → T ((positioned R x).goes p w q)
  unfolding positioned
  goes_in p w q h g = and_both (within 1 n q) ((automaton R x).goes (st p) w (st q)) (within_in 1 n q h.0 h.1) g

  goes_at : (p w q : ℕ) → T ((positioned R x).goes p w q) → OneTo n q × T ((automaton R x).goes (st p) w (st q))
  unfolding positioned
  goes_at p w q g =
      let a = within 1 n q in
      let b = (automaton R x).goes (st p) w (st q) in
      (within-at 1 n q (and_left a b g), and_right a b g)

  goes-coded : (p w r : ℕ) → OneTo n p → T ((automaton R x).goes (st p) w r) → (q : ℕ) × OneTo n q × (st q ≡ r) × T ((positioned R x).goes p w q)
  goes-coded p w r h g =
      let c = position r (goes_on F R accepted x lo hi (st p) w r (on_chain p h) g).0 in
      (c.0, c.1, c.2, goes_in p w c.0 c.1 (rw c.2 g))

  may-move : (p q : ℕ) → MoveUnder (positioned R x) n p q → May R all (st p) (st q)
  may-move p q m =
      let g = (goes_at p m.valuation q m.taken).1 in
      let r = goes_on F R accepted x lo hi (st p) m.valuation (st q) (on_chain p m.from) g in
      record { from = on_chain p m.from; to = r.0; leading = r.1 }

  pub positioned-sound : Sound (positioned R x) n
  unfolding positioned automaton
  positioned-sound = record {
    begins = (omega arith, some-state);
    stays = λ q w q' h g. (goes_at q w q' g).0;
    target = λ q w h l. let r = goes_some (st q) w (on_chain q h) l in let c = goes-coded q w r.0 h r.1 in (c.0, c.3);
    single = λ q w q' q'' h l g k.
        let a = goes_at q w q' g in
        let b = goes_at q w q'' k in
        same-position q' q'' a.0 b.0 (goes_one (st q) w (st q') (st q'') (on_chain q h) l a.1 b.1);
    apart = λ p q t f there back.
        unmixed-sound R all (not-mixed F R accepted x lo hi)
        (record { accepting-state = st p; rejecting-state = st q; accepts = t; rejects = f; there = walk-image st may-move there; back = walk-image st may-move back });
  }

  pub positioned-named : Named (automaton R x) (positioned R x) n st
  unfolding positioned automaton
  positioned-named = record {
    variables = refl;
    begins = first;
    accepting = λ q. refl;
    goes = λ p w q g. (goes_at p w q g).1;
    coded = goes-coded;
    once = same-position;
  }

pub positioned-first : (R : List ℕ) (x : ℕ) → (positioned R x).initial ≡ 1
unfolding positioned
positioned-first R x = refl

-- ---- a sheet that is lent has few states and variables

module _ (R : List ℕ) (accepted : rule_refusal lent R ≡ 0) (x : ℕ) (lo : 1 ≤ x) (hi : x ≤ automata R) where
  pub few-positions : state_count R x ≤ chained_most
  few-positions = few-states R x (rule-answers lent R accepted).twelve lo hi

  pub few-valued : (positioned R x).variables ≤ variables_most
  unfolding positioned automaton
  few-valued = few-variables R x (rule-answers lent R accepted).nine lo hi
