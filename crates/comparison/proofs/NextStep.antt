-- The automaton Next: on some path it accepts exactly where some next node has its argument line.
use mathlib.Core.Path.{◌≡◌, refl, sym, subst, ◌∙◌}
use mathlib.Core.Logic.{◌↔◌, ⊎_elim}
use Prim.Native.Nat.{ℕ, zero, suc, ◌-◌, ◌^◌, ◌≤◌, ◌<◌}
use native.Mathlib.Omega.{arith}
use mathlib.Core.List.{List}
use mathlib.Core.Bool.{false, ◌||◌}
use lib.Dec.{T, eqb, eqb→eq, eqb_refl}
use Rattle.truth.specs.Passed.{Automaton, bit, kripke, nodes, automaton, machine_refusal, chain, record_word}
use Rattle.truth.specs.Truth.{Truths, Valuation, SomePath}
use Rattle.truth.proofs.Passed.{or_cases, or_left, first_next, first_edge-leads, edge_stays}
use Rattle.truth.proofs.Valuations.{valued}
use Rattle.comparison.specs.inner.Lines.{Entry, sheet}

-- what is used of Next: state 2 goes to 3 if the variable is true, to 4 if it is not; 3 and 4 stay; 3 accepts and 4 does not
pub record IsNext (A : Automaton) : Type 0 where
  pub one : A.variables ≡ 1
  pub begin : A.initial ≡ 1
  pub from-1 : (w q : ℕ) → w < 2 → T (A.goes 1 w q) ↔ (q ≡ 2)
  pub from-2-true : (q : ℕ) → T (A.goes 2 1 q) ↔ (q ≡ 3)
  pub from-2-false : (q : ℕ) → T (A.goes 2 0 q) ↔ (q ≡ 4)
  pub from-3 : (w q : ℕ) → w < 2 → T (A.goes 3 w q) ↔ (q ≡ 3)
  pub from-4 : (w q : ℕ) → w < 2 → T (A.goes 4 w q) ↔ (q ≡ 4)
  pub accepts : T (A.accepting 3)
  pub rejects : T (A.accepting 4) → ⊥

only : (a q : ℕ) → T (eqb a q || false) ↔ (q ≡ a)
only a q = (λ t. ⊎_elim (λ u. sym (eqb→eq a q u)) absurd (or_cases (eqb a q) false t), λ e. or_left (eqb a q) false (rw e (eqb_refl a)))

-- automaton 1 of a sheet that comparison writes is Next
module _ (ls : List Entry) where
  -- state p goes to r under both valuations
  always : (p r : ℕ) → ((q : ℕ) → T ((automaton (sheet ls) 1).goes p 0 q) ↔ (q ≡ r)) → ((q : ℕ) → T ((automaton (sheet ls) 1).goes p 1 q) ↔ (q ≡ r))
      → (w q : ℕ) → w < 2 → T ((automaton (sheet ls) 1).goes p w q) ↔ (q ≡ r)
  always p r a b zero q h = a q
  always p r a b (suc zero) q h = b q
  always p r a b (suc (suc w)) q h = absurd (omega arith)

  pub is-next : IsNext (automaton (sheet ls) 1)
  unfolding automaton chain record_word sheet
  is-next = record {
    one = refl;
    begin = refl;
    from-1 = always 1 2 (only 2) (only 2);
    from-2-true = only 3;
    from-2-false = only 4;
    from-3 = always 3 3 (only 3) (only 3);
    from-4 = always 4 4 (only 4) (only 4);
    accepts = tt;
    rejects = λ x. x;
  }

module _ (M : List ℕ) (accepted : machine_refusal M ≡ 0) (A : Automaton) (is : IsNext A) (above : Truths) (arg : ℕ → ℕ) where
  -- the valuation of one line: 1 if it is true, 0 if not
  module _ (s w : ℕ) (v : Valuation above A.variables arg s w) where
    small : w < 2
    unfolding Valuation
    small = subst (λ (n : ℕ). w < 2 ^ n) is.one v.0

    value : T (bit w 0) ↔ above (arg 0) s
    unfolding Valuation
    value = v.1 0 (omega (arith, is.one))

    one-if : above (arg 0) s → w ≡ 1
    one-if h = go w refl small
      where
        go : (x : ℕ) → w ≡ x → x < 2 → w ≡ 1
        go zero e l = absurd (unfold bit in (rw e at (value.1 h)))
        go (suc zero) e l = e
        go (suc (suc x)) e l = absurd (omega arith)

  -- from a path: look at the node after the first
  module _ (s : ℕ) (r : SomePath (kripke M) A above arg A.accepting s) where
    below : (i : ℕ) → r.valuation i < 2
    below i = small (r.node i) (r.valuation i) (r.values i)

    step : (i q : ℕ) → r.state i ≡ q → T (A.goes q (r.valuation i) (r.state (suc i)))
    step i q e = rw e at (r.goes i)

    second : r.state 1 ≡ 2
    second = (is.from-1 (r.valuation 0) (r.state 1) (below 0)).0 (step 0 1 (r.begins ∙ is.begin))

    stuck : r.state 2 ≡ 4 → (k : ℕ) → r.state (suc (suc k)) ≡ 4
    stuck e zero = e
    stuck e (suc k) = (is.from-4 (r.valuation (suc (suc k))) (r.state (suc (suc (suc k)))) (below (suc (suc k)))).0 (step (suc (suc k)) 4 (stuck e k))

    never : r.state 2 ≡ 4 → ⊥
    never e =
        let k = r.recurs 2 in
        let p : suc (suc (k.0 - 2)) ≡ k.0 = omega arith in
        is.rejects (subst (λ (q : ℕ). T (A.accepting q)) (rw p at (stuck e (k.0 - 2))) k.2)

    argument : (w : ℕ) → r.valuation 1 ≡ w → w < 2 → above (arg 0) (r.node 1)
    unfolding bit
    argument zero e h = absurd (never ((is.from-2-false (r.state 2)).0 (rw e at (step 1 2 second))))
    argument (suc zero) e h = (value (r.node 1) (r.valuation 1) (r.values 1)).0 (rw e tt)
    argument (suc (suc w)) e h = absurd (omega arith)

    some_next : (t : ℕ) × T ((kripke M).edge s t) × above (arg 0) t
    some_next = (r.node 1, rw r.starts at (r.moves 0), argument (r.valuation 1) refl (below 1))

  -- to a path: s, t, then first edges for ever
  module _ (decided : (u : ℕ) → 1 ≤ u → u ≤ nodes M → Dec (above (arg 0) u)) (s : ℕ) (lo : 1 ≤ s) (hi : s ≤ nodes M)
      (t : ℕ) (edge : T ((kripke M).edge s t)) (holds : above (arg 0) t) where
    node : ℕ → ℕ
    node zero = s
    node (suc zero) = t
    node (suc (suc k)) = first_next M (node (suc k))

    range : (k : ℕ) → (1 ≤ node k) × (node k ≤ nodes M)
    unfolding node
    range zero = (lo, hi)
    range (suc zero) = edge_stays M accepted s lo hi t edge
    range (suc (suc k)) =
        let h = range (suc k) in
        edge_stays M accepted (node (suc k)) h.0 h.1 (first_next M (node (suc k))) (first_edge-leads M accepted (node (suc k)) h.0 h.1)

    moves : (k : ℕ) → T ((kripke M).edge (node k) (node (suc k)))
    unfolding node
    moves zero = edge
    moves (suc k) = let h = range (suc k) in first_edge-leads M accepted (node (suc k)) h.0 h.1

    state : ℕ → ℕ
    state zero = 1
    state (suc zero) = 2
    state (suc (suc k)) = 3

    numbered : (k : ℕ) → (w : ℕ) × Valuation above A.variables arg (node k) w
    numbered k =
        valued above A.variables arg (node k) (λ i l.
        let e : i ≡ 0 = omega (arith, is.one) in
        rw e (decided (node k) (range k).0 (range k).1))

    fits : (k : ℕ) → (numbered k).0 < 2
    fits k = small (node k) (numbered k).0 (numbered k).1

    goes : (k : ℕ) → T (A.goes (state k) (numbered k).0 (state (suc k)))
    unfolding state node
    goes zero = (is.from-1 (numbered 0).0 2 (fits 0)).1 refl
    goes (suc zero) = rw (one-if t (numbered 1).0 (numbered 1).1 holds) ((is.from-2-true 3).1 refl)
    goes (suc (suc k)) = (is.from-3 (numbered (suc (suc k))).0 3 (fits (suc (suc k)))).1 refl

    some-path : SomePath (kripke M) A above arg A.accepting s
    unfolding node state
    some-path = record {
      node = node;
      state = state;
      valuation = λ k. (numbered k).0;
      starts = refl;
      begins = sym is.begin;
      moves = moves;
      values = λ k. (numbered k).1;
      goes = goes;
      recurs = λ i. (suc (suc i), omega arith, is.accepts);
    }

  pub next-step : ((u : ℕ) → 1 ≤ u → u ≤ nodes M → Dec (above (arg 0) u)) → (s : ℕ) → 1 ≤ s → s ≤ nodes M
      → SomePath (kripke M) A above arg A.accepting s ↔ ((t : ℕ) × T ((kripke M).edge s t) × above (arg 0) t)
  next-step decided s lo hi = (some_next s, λ x. some-path decided s lo hi x.0 x.1 x.2)
