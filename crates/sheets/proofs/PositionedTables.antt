-- The tables of an automaton by position: what the code reads of a chain's states is the automaton.
use mathlib.Core.Path.{◌≡◌, refl, ◌∙◌}
use Prim.Native.Nat.{ℕ, ◌+◌, ◌-◌, ◌*◌, ◌<◌}
use native.Mathlib.Omega.{arith}
use mathlib.Core.List.{List}
use mathlib.Core.Bool.{◌&&◌}
use borrow.Author.Tests.{lt-ltb}
use lib.ListN.{length, get_or}
use lib.Dec.{ltb, eqb}
use Rattle.sheets.specs.Format.{chained_most}
use Rattle.sheets.specs.Words.{bit, within, any_of}
use Rattle.sheets.specs.Rules.{variables, states_of, accepting, transitions_of, transition_target, mask, automaton}
use Rattle.sheets.specs.Positioned.{state_count, state_of, positioned}
use Rattle.sheets.specs.inner.Tabled.{Tabled}
use Rattle.sheets.specs.declared.states.States.{States}
use Rattle.sheets.specs.declared.position.ByPosition.{ByPosition}
use Rattle.sheets.proofs.Tests.{passed}
use Rattle.sheets.proofs.Search.{within_in}

-- the mask has the valuations under which the sheet goes from state p to state q
abbrev pub Between : List ℕ → ℕ → ℕ → ℕ → Type 0
Between R p q m = (w : ℕ) → bit m w ≡ any_of (transitions_of R p) (λ y. bit (mask R y) w && eqb (transition_target R y) q)

-- the masks out of the first p of the states, towards the first n
abbrev pub From : List ℕ → List ℕ → ℕ → ℕ → List ℕ → Type 0
From R states n p out = (i k : ℕ) → i < p → k < n → Between R (get_or states i 0) (get_or states k 0) (get_or out (chained_most * i + k) 0)

module _ (R : List ℕ) (x : ℕ) (a : ByPosition) (all : States) (counted : all.count ≡ length (states_of R x)) (at : (k : ℕ) → get_or all.numbers k 0 ≡ get_or (states_of R x) k 0) where
  pub tabled : a.variables ≡ variables R x → a.count ≡ all.count → a.numbers ≡ all.numbers
      → ((i : ℕ) → bit a.accepting i ≡ (ltb i all.count && accepting R (get_or all.numbers i 0)))
      → From R all.numbers all.count all.count a.masks → Tabled (positioned R x) (state_count R x) (state_of R x) a
  unfolding positioned automaton
  tabled ev ec en accepts goes = record {
    variables = ev;
    count = ec ∙ counted;
    initial = refl;
    accepting = λ p l.
        let e : p + 1 - 1 ≡ p = omega arith in
        let h : p < all.count = omega (arith, counted) in
        rw (e, ← (at p)) (rw (lt-ltb p all.count h) at (accepts p));
    goes = λ p q w l m.
        let e : p + 1 - 1 ≡ p = omega arith in
        let f : q + 1 - 1 ≡ q = omega arith in
        let h : p < all.count = omega (arith, counted) in
        let k : q < all.count = omega (arith, counted) in
        let t = passed (within 1 (state_count R x) (q + 1)) (within_in 1 (state_count R x) (q + 1) (omega arith) (omega arith)) in
        rw (e, f, ← (at p), ← (at q), t) (goes p q h k w);
    numbers = λ p l. let e : p + 1 - 1 ≡ p = omega arith in rw (e, en) (at p);
  }
