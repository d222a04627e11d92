-- It does not matter to the paths of a line, nor to a list that shows one, whether an automaton's states are given by names or by positions.
use mathlib.Core.Path.{◌≡◌, refl, sym, ap, ◌∙◌}
use mathlib.Core.Logic.{◌↔◌}
use Prim.Native.Nat.{ℕ, zero, suc, ◌≤◌, ◌<◌}
use native.Mathlib.Omega.{arith}
use mathlib.Core.List.{List}
use mathlib.Core.Bool.{Bool}
use lib.Dec.{T}
use Rattle.sheets.specs.Structures.{Kripke, Automaton}
use Rattle.sheets.specs.Rules.{Form, automata, automaton, rule_refusal}
use Rattle.sheets.specs.Sound.{OneTo, Sound}
use Rattle.sheets.specs.Positioned.{state_of, positioned}
use Rattle.sheets.proofs.PositionedStates.{Named, positioned-sound, positioned-named}
use Rattle.truth.specs.Truth.{Truths, Valuation, SomePath}
use Rattle.truth.specs.Lists.{AutomatonStep, Lasso}
use Rattle.truth.specs.inner.Product.{turned, good}

-- B is A by position; what is good of A is good of B
module _ {A B : Automaton} {n : ℕ} {name : ℕ → ℕ} (names : Named A B n name) (K : Kripke) (above : Truths) (arg : ℕ → ℕ) (good good' : ℕ → Bool)
    (good_is : (q : ℕ) → good' q ≡ good (name q)) (s : ℕ) where
  numbered : SomePath K B above arg good' s → SomePath K A above arg good s
  numbered p = record {
    node = p.node;
    state = λ i. name (p.state i);
    valuation = p.valuation;
    starts = p.starts;
    begins = ap name p.begins ∙ names.begins;
    moves = p.moves;
    values = λ i. rw names.variables (p.values i);
    goes = λ i. names.goes (p.state i) (p.valuation i) (p.state (suc i)) (p.goes i);
    recurs = λ i. let k = p.recurs i in (k.0, k.1, rw (good_is (p.state k.0)) at k.2);
  }

  module _ (sound : Sound B n) (p : SomePath K A above arg good s) where
    -- what stands for the state at a place
    code : (i : ℕ) → (q : ℕ) × OneTo n q × (name q ≡ p.state i)
    code zero = (B.initial, sound.begins, names.begins ∙ sym p.begins)
    code (suc i) =
        let c = code i in
        let d = names.coded c.0 (p.valuation i) (p.state (suc i)) c.1 (rw c.2 (p.goes i)) in
        (d.0, d.1, d.2)

    code-first : (code 0).0 ≡ B.initial
    unfolding code
    code-first = refl

    code-goes : (i : ℕ) → T (B.goes (code i).0 (p.valuation i) (code (suc i)).0)
    unfolding code
    code-goes i = let c = code i in (names.coded c.0 (p.valuation i) (p.state (suc i)) c.1 (rw c.2 (p.goes i))).3

    by-position : SomePath K B above arg good' s
    by-position = record {
      node = p.node;
      state = λ i. (code i).0;
      valuation = p.valuation;
      starts = p.starts;
      begins = code-first;
      moves = p.moves;
      values = λ i. rw names.variables at (p.values i);
      goes = code-goes;
      recurs = λ i. let k = p.recurs i in (k.0, k.1, rw (good_is (code k.0).0, (code k.0).2) k.2);
    }

  pub path-named : Sound B n → SomePath K A above arg good s ↔ SomePath K B above arg good' s
  path-named sound = (by-position sound, numbered)

  -- ---- a list

  step-named : (s q q' : ℕ) → AutomatonStep B above arg s q q' → AutomatonStep A above arg s (name q) (name q')
  step-named s q q' st =
      record { valuation = st.valuation; values = rw names.variables st.values; goes = names.goes q st.valuation q' st.goes }

  pub lasso-named : (node state : ℕ → ℕ) (len back : ℕ) → ((i : ℕ) → 1 ≤ i → i ≤ len → OneTo n (state i))
      → Lasso K B above arg good' s node state len back → Lasso K A above arg good s node (λ i. name (state i)) len back
  lasso-named node state len back on l = record {
    back_from = l.back_from;
    back_to = l.back_to;
    starts = l.starts;
    begins = ap name l.begins ∙ names.begins;
    moves = l.moves;
    steps = λ i lo hi. step-named (node i) (state i) (state (suc i)) (l.steps i lo hi);
    moves-back = l.moves-back;
    steps_back = step-named (node len) (state len) (state back) l.steps_back;
    recurs = λ i lo hi. rw (good_is (state i)) at (l.recurs i lo hi);
    once = λ i k lo lt hi e f. l.once i k lo lt hi e (names.once (state i) (state k) (on i lo (omega arith)) (on k (omega arith) hi) f);
  }

-- ---- of an accepted sheet

module _ (F : Form) (R : List ℕ) (accepted : rule_refusal F R ≡ 0) (x : ℕ) (lo : 1 ≤ x) (hi : x ≤ automata R) where
  pub good-named : (exchanged : Bool) (q : ℕ) → good exchanged (positioned R x) q ≡ good exchanged (automaton R x) (state_of R x q)
  good-named exchanged q = ap (turned exchanged) ((positioned-named F R accepted x lo hi).accepting q)

  pub path-by-position : (K : Kripke) (above : Truths) (arg : ℕ → ℕ) (exchanged : Bool) (s : ℕ)
      → SomePath K (automaton R x) above arg (good exchanged (automaton R x)) s ↔ SomePath K (positioned R x) above arg (good exchanged (positioned R x)) s
  path-by-position K above arg exchanged s =
      path-named (positioned-named F R accepted x lo hi) K above arg (good exchanged (automaton R x)) (good exchanged (positioned R x))
      (good-named exchanged) s (positioned-sound F R accepted x lo hi)

-- a path asks of the argument lines below the automaton's variables alone
module _ (K : Kripke) (A : Automaton) (above : Truths) (good : ℕ → Bool) (s : ℕ) where
  other-arguments : (arg arg' : ℕ → ℕ) → ((i : ℕ) → i < A.variables → arg i ≡ arg' i) → SomePath K A above arg good s → SomePath K A above arg' good s
  unfolding Valuation
  other-arguments arg arg' same p = record {
    node = p.node;
    state = p.state;
    valuation = p.valuation;
    starts = p.starts;
    begins = p.begins;
    moves = p.moves;
    values = λ i. ((p.values i).0, λ k l. rw (same k l) at ((p.values i).1 k l));
    goes = p.goes;
    recurs = p.recurs;
  }

  pub path-arguments : (arg arg' : ℕ → ℕ) → ((i : ℕ) → i < A.variables → arg i ≡ arg' i) → SomePath K A above arg good s ↔ SomePath K A above arg' good s
  path-arguments arg arg' same = (other-arguments arg arg' same, other-arguments arg' arg (λ i l. sym (same i l)))
