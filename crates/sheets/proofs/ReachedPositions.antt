-- Question 14 by positions: the positions that are reached are those of the states that `reached` has, and two positions mix where
-- `unmixed` says no.
use mathlib.Core.Path.{◌≡◌, refl, sym, ◌∙◌}
use Prim.Native.Nat.{ℕ, zero, suc, ◌+◌, ◌≤◌, ◌<◌}
use native.Mathlib.Numerals.{add-one}
use native.Mathlib.Nat.{add-zero}
use native.Mathlib.Omega.{arith}
use mathlib.Core.List.{List}
use mathlib.Core.Bool.{Bool, not, ◌&&◌, ◌||◌}
use borrow.Author.Tests.{lt-ltb}
use lib.ListN.{length, get_or}
use lib.Dec.{T, T_not, not_T, leb, leb→le, ltb}
use Rattle.sheets.specs.Format.{chained_most}
use Rattle.sheets.specs.Words.{bit, member, any_of, all_of}
use Rattle.sheets.specs.Rules.{fits, lent, automata, variables, states_of, transitions_of, transitions_fit, automaton_fits, q12, leads, accepting, passing, reached, walks, unmixed}
use Rattle.sheets.specs.inner.Positions.{some_below, in_row, reached_at, mixing}
use Rattle.sheets.proofs.Tests.{and_left, and_right, and_both, surely}
use Rattle.sheets.proofs.Search.{each_at, any_at, any-in, passing-at, passing-in}
use Rattle.sheets.proofs.Positions.{same_tests, place_in, place_of, some_at, some_in, some_same}
use Rattle.sheets.proofs.Walks.{mixes, none-mixes, some-mix}

-- ---- rounds

module _ (may : ℕ → ℕ → Bool) (n p : ℕ) where
  pub reach-first : (i : ℕ) → reached_at may n p 0 i ≡ may p i
  unfolding reached_at
  reach-first i = refl

  -- a round more, of a set S that has what k rounds reach
  pub reach-round : (k : ℕ) (S : ℕ → Bool) → ((i : ℕ) → S i ≡ reached_at may n p k i)
      → (i : ℕ) → (S i || some_below n (λ j. S j && may j i)) ≡ reached_at may n p (k + 1) i
  unfolding reached_at
  reach-round k S h i =
      let e = some_same (λ j. S j && may j i) (λ j. reached_at may n p k j && may j i) (λ j. rw (h j)) n in
      rw (add-one k, h i, e)

  -- where a round adds nothing to the set, no more rounds do
  pub reach-stays : (k : ℕ) (S : ℕ → Bool) → ((i : ℕ) → S i ≡ reached_at may n p k i) → ((i : ℕ) → (S i || some_below n (λ j. S j && may j i)) ≡ S i)
      → (d i : ℕ) → S i ≡ reached_at may n p (k + d) i
  reach-stays k S h same zero i = rw (add-zero k) (h i)
  reach-stays k S h same (suc d) i =
      let e : k + suc d ≡ k + d + 1 = omega arith in
      sym (same i) ∙ rw e (reach-round (k + d) S (reach-stays k S h same d) i)

-- ---- the states at the positions

-- a member of `all` is among those that pass where it passes
passing-is : (t : ℕ → Bool) (all : List ℕ) (x : ℕ) → T (member x all) → member x (passing t all) ≡ t x
passing-is t all x m = same_tests (member x (passing t all)) (t x) (λ u. (passing-at t all x u).1) (passing-in t all x m)

module _ (R all : List ℕ) (n : ℕ) (size : n ≡ length all) (may : ℕ → ℕ → Bool)
    (leading : (j i : ℕ) → j < n → may j i ≡ (ltb i n && leads R (get_or all j 0) (get_or all i 0))) where
  -- the steps from a set of positions, which are those of the states L
  module _ (L : List ℕ) (S : ℕ → Bool) (on : (x : ℕ) → T (member x L) → T (member x all))
      (same : (j : ℕ) → j < n → S j ≡ member (get_or all j 0) L) (i : ℕ) (hi : i < n) where
    steps-there : T (some_below n (λ j. S j && may j i)) → T (any_of L (λ r. leads R r (get_or all i 0)))
    steps-there t =
        let r = some_at (λ j. S j && may j i) n t in
        let j = r.0 in
        let m = rw (same j r.1) at (and_left (S j) (may j i) r.2) in
        let l = rw (leading j i r.1, lt-ltb i n hi) at (and_right (S j) (may j i) r.2) in
        any-in L (λ r. leads R r (get_or all i 0)) (get_or all j 0) m l

    steps_back : T (any_of L (λ r. leads R r (get_or all i 0))) → T (some_below n (λ j. S j && may j i))
    steps_back t =
        let r = any_at L (λ r. leads R r (get_or all i 0)) t in
        let o = place_of all r.0 (on r.0 r.1) in
        let j = o.0 in
        let hj : j < n = omega arith in
        let m : T (S j) = rw (same j hj, o.2) r.1 in
        let l : T (may j i) = rw (leading j i hj, lt-ltb i n hi, o.2) r.2 in
        some_in (λ j. S j && may j i) n j hj (and_both (S j) (may j i) m l)

    steps-same : some_below n (λ j. S j && may j i) ≡ any_of L (λ r. leads R r (get_or all i 0))
    steps-same = same_tests (some_below n (λ j. S j && may j i)) (any_of L (λ r. leads R r (get_or all i 0))) steps-there steps_back

  reached-on : (f s x : ℕ) → T (member x (reached R all s f)) → T (member x all)
  unfolding reached
  reached-on zero s x t = (passing-at _ all x t).0
  reached-on (suc f) s x t = (passing-at _ all x t).0

  -- what f + 1 steps reach, by positions and by states
  reach-in : (f p i : ℕ) → p < n → i < n → reached_at may n p f i ≡ member (get_or all i 0) (reached R all (get_or all p 0) f)
  unfolding reached_at reached
  reach-in zero p i hp hi =
      rw (leading p i hp, lt-ltb i n hi) (sym (passing-is (leads R (get_or all p 0)) all (get_or all i 0) (place_in all i (omega arith))))
  reach-in (suc f) p i hp hi =
      let L = reached R all (get_or all p 0) f in
      let e = steps-same L (reached_at may n p f) (reached-on f (get_or all p 0)) (λ j hj. reach-in f p j hp hj) i hi in
      rw (reach-in f p i hp hi, e)
      (sym (passing-is (λ q. member q L || any_of L (λ r. leads R r q)) all (get_or all i 0) (place_in all i (omega arith))))

-- ---- the whole question, of one automaton

module _ (R all : List ℕ) (n set : ℕ) (rows reach : List ℕ) (size : n ≡ length all)
    (leading : (j i : ℕ) → j < n → in_row rows j i ≡ (ltb i n && leads R (get_or all j 0) (get_or all i 0)))
    (reaching : (j i : ℕ) → j < n → in_row reach j i ≡ reached_at (in_row rows) n j n i)
    (accepts : (i : ℕ) → bit set i ≡ (ltb i n && accepting R (get_or all i 0))) where
  walks_at : (p q : ℕ) → p < n → q < n → in_row reach p q ≡ walks R all (get_or all p 0) (get_or all q 0)
  unfolding walks
  walks_at p q hp hq = rw (reaching p q hp, ← size) (reach-in R all n size (in_row rows) leading n p q hp hq)

  accepts-at : (p : ℕ) → p < n → bit set p ≡ accepting R (get_or all p 0)
  accepts-at p hp = rw (accepts p, lt-ltb p n hp)

  mixes-at : (p q : ℕ) → p < n → q < n → mixing set reach p q ≡ mixes R all (get_or all p 0) (get_or all q 0)
  mixes-at p q hp hq = rw (accepts-at p hp, accepts-at q hq, walks_at p q hp hq, walks_at q p hq hp)

  mixed-not : T (some_below n (λ p. some_below n (mixing set reach p))) → T (unmixed R all) → ⊥
  mixed-not t u =
      let a = some_at (λ p. some_below n (mixing set reach p)) n t in
      let b = some_at (mixing set reach a.0) n a.2 in
      none-mixes R all u (get_or all a.0 0) (get_or all b.0 0) (place_in all a.0 (omega arith)) (place_in all b.0 (omega arith))
      (rw (mixes-at a.0 b.0 a.1 b.1) at b.2)

  mixed-there : T (not (unmixed R all)) → T (some_below n (λ p. some_below n (mixing set reach p)))
  mixed-there t =
      let r = some-mix R all t in
      let i = place_of all r.0 r.2 in
      let j = place_of all r.1 r.3 in
      let hi : i.0 < n = omega arith in
      let hj : j.0 < n = omega arith in
      let m : T (mixing set reach i.0 j.0) = rw (mixes-at i.0 j.0 hi hj, i.2, j.2) r.4 in
      some_in (λ p. some_below n (mixing set reach p)) n i.0 hi (some_in (mixing set reach i.0) n j.0 hj m)

  pub unmixed-is : not (some_below n (λ p. some_below n (mixing set reach p))) ≡ unmixed R all
  unmixed-is =
      let m = some_below n (λ p. some_below n (mixing set reach p)) in
      same_tests (not m) (unmixed R all) (λ t. surely (unmixed R all) (λ u. T_not m t (mixed-there u))) (λ u. not_T m (λ t. mixed-not t u))

-- question 12 leaves at most 16 positions
pub few-states : (R : List ℕ) (x : ℕ) → T (q12 lent R) → 1 ≤ x → x ≤ automata R → length (states_of R x) ≤ chained_most
unfolding q12 automaton_fits fits
few-states R x t lo hi =
    leb→le (length (states_of R x)) chained_most
    (and_left (leb (length (states_of R x)) chained_most)
    (all_of (states_of R x) (λ q. transitions_fit R (variables R x) (states_of R x) (transitions_of R q)))
    (each_at (automata R) (automaton_fits lent R) t x lo hi))
