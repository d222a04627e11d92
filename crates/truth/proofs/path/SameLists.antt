-- The list that shows a path is its places 1 to `len`, and what it says of the lines above it, it says at its own nodes: another list
-- that agrees there, and other truths that agree there, show the same path.
use mathlib.Core.Path.{◌≡◌, sym, ◌∙◌}
use mathlib.Core.Logic.Iff
use mathlib.Core.Logic.{◌↔◌}
use Prim.Native.Nat.{ℕ, suc, ◌≤◌, ◌<◌}
use native.Mathlib.Omega.{arith}
use mathlib.Core.Bool.{Bool}
use Rattle.sheets.specs.Structures.{Kripke, Automaton}
use Rattle.truth.specs.Truth.{Truths, Valuation}
use Rattle.truth.specs.Lists.{AutomatonStep, Lasso}

-- a step, by other truths of the arguments
step-truths : (A : Automaton) (above above' : Truths) (arg arg' : ℕ → ℕ) (s q q' : ℕ) → ((k : ℕ) → k < A.variables → above (arg k) s ↔ above' (arg' k) s)
    → AutomatonStep A above arg s q q' → AutomatonStep A above' arg' s q q'
unfolding Valuation
step-truths A above above' arg arg' s q q' agree st =
    record { valuation = st.valuation; values = (st.values.0, λ k l. Iff.trans (st.values.1 k l) (agree k l)); goes = st.goes }

module _ (K : Kripke) (A : Automaton) (arg : ℕ → ℕ) (good : ℕ → Bool) (s len back : ℕ) where
  -- the same nodes and states
  pub lasso-same : (above : Truths) (node state node' state' : ℕ → ℕ)
      → ((i : ℕ) → 1 ≤ i → i ≤ len → node' i ≡ node i) → ((i : ℕ) → 1 ≤ i → i ≤ len → state' i ≡ state i)
      → Lasso K A above arg good s node state len back → Lasso K A above arg good s node' state' len back
  lasso-same above node state node' state' same_node same_state l =
      let f = l.back_from in
      let t = l.back_to in
      let some : 1 ≤ len = omega arith in
      let whole : len ≤ len = omega arith in
      record {
        back_from = f;
        back_to = t;
        starts = same_node 1 (omega arith) some ∙ l.starts;
        begins = same_state 1 (omega arith) some ∙ l.begins;
        moves = λ i lo hi. rw (same_node i lo (omega arith), same_node (suc i) (omega arith) hi) (l.moves i lo hi);
        steps = λ i lo hi. rw (same_node i lo (omega arith), same_state i lo (omega arith), same_state (suc i) (omega arith) hi) (l.steps i lo hi);
        moves-back = rw (same_node len some whole, same_node back f t) l.moves-back;
        steps_back = rw (same_node len some whole, same_state len some whole, same_state back f t) l.steps_back;
        recurs = λ i lo hi. rw (same_state i (omega arith) hi) (l.recurs i lo hi);
        once = λ i k lo lt hi e e'.
            l.once i k lo lt hi
            (sym (same_node i lo (omega arith)) ∙ e ∙ same_node k (omega arith) hi)
            (sym (same_state i lo (omega arith)) ∙ e' ∙ same_state k (omega arith) hi);
      }

  -- the same truths of the arguments, which may be other lines
  pub lasso-truths : (above above' : Truths) (arg' : ℕ → ℕ) (node state : ℕ → ℕ)
      → ((i k : ℕ) → 1 ≤ i → i ≤ len → k < A.variables → above (arg k) (node i) ↔ above' (arg' k) (node i))
      → Lasso K A above arg good s node state len back → Lasso K A above' arg' good s node state len back
  lasso-truths above above' arg' node state agree l =
      let f = l.back_from in
      let t = l.back_to in
      record {
        back_from = f;
        back_to = t;
        starts = l.starts;
        begins = l.begins;
        moves = l.moves;
        steps = λ i lo hi. step-truths A above above' arg arg' (node i) (state i) (state (suc i)) (λ k. agree i k lo (omega arith)) (l.steps i lo hi);
        moves-back = l.moves-back;
        steps_back = step-truths A above above' arg arg' (node len) (state len) (state back) (λ k. agree len k (omega arith) (omega arith)) l.steps_back;
        recurs = l.recurs;
        once = l.once;
      }
