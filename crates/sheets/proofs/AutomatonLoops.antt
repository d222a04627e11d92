-- An automaton's states by position, as questions 12 to 14 go over them: the list that was read is the chain, and what is asked of the
-- transitions out of each state.
use mathlib.Core.Path.{◌≡◌, refl, sym, ◌∙◌, ap}
use mathlib.Core.Logic.{⊎_elim}
use Prim.Native.Nat.{ℕ, zero, suc, ◌+◌, ◌-◌, ◌≤◌, ◌<◌}
use native.Mathlib.Omega.{arith}
use mathlib.Core.List.{List}
use mathlib.Core.Bool.{Bool, true, false, not, ◌&&◌}
use borrow.Author.Tests.{le-leb, lt-leb, ne_eqb}
use lib.ListN.{length, get_or, take}
use lib.Seq.{length-take-le, get_or-take, ext_get_or}
use lib.Dec.{T, leb, eqb, leb→le}
use Rattle.sheets.specs.Format.{state_words, chained_most, variables_most, states_from}
use Rattle.sheets.specs.Words.{bit, within, all_of, how_many}
use Rattle.sheets.specs.Records.{record_word}
use Rattle.sheets.specs.inner.Walkers.{records}
use Rattle.sheets.specs.Rules.{total, automaton_total, most, fits, lent, automata, states, variables, initial, states_of, transitions_of, mask, transitions_fit, automaton_fits, q9}
use Rattle.sheets.specs.inner.Gathered.{Listed, Until}
use Rattle.sheets.specs.inner.Totality.{StateTaken, SomeNot}
use Rattle.sheets.specs.declared.automata.Totality.{Totality}
use Rattle.sheets.specs.declared.along.Numbers.{Numbers}
use Rattle.sheets.proofs.Tests.{and_left}
use Rattle.sheets.proofs.Search.{le-or-gt, each_at}
use Rattle.sheets.proofs.GatheredChains.{all-until}
use Rattle.sheets.proofs.ListedChains.{past_end}

-- ---- valuations: question 13 numbers them from 1, a mask's bits from 0

abbrev pub served : List ℕ → List ℕ → ℕ → Bool
served R ys w = eqb (how_many ys (λ y. bit (mask R y) (w - 1))) 1

exactly-one : (n : ℕ) → (leb 1 n && not (leb 2 n)) ≡ eqb n 1
exactly-one zero = refl
exactly-one (suc zero) = refl
exactly-one (suc (suc n)) = rw (le-leb 1 (suc (suc n)) (omega arith), le-leb 2 (suc (suc n)) (omega arith), ne_eqb (suc (suc n)) 1 (λ e. omega arith))

-- at least one of the transitions is taken, and not two
pub served-once : (R ys : List ℕ) (w : ℕ) {some several : Bool} → some ≡ leb 1 (how_many ys (λ y. bit (mask R y) w)) → several ≡ leb 2 (how_many ys (λ y. bit (mask R y) w))
    → (some && not several) ≡ served R ys (w + 1)
served-once R ys w e f = let d : (w + 1) - 1 ≡ w = omega arith in rw (e, f, d) (exactly-one (how_many ys (λ y. bit (mask R y) w)))

-- ---- an automaton in the form that is lent

abbrev pub fitting : List ℕ → ℕ → ℕ → Bool
fitting R x q = transitions_fit R (variables R x) (states_of R x) (transitions_of R q)

module _ (R : List ℕ) (x : ℕ) {n : ℕ} (counted : n ≡ length (states_of R x)) where
  pub fits-if-few : n ≤ chained_most → automaton_fits lent R x ≡ all_of (states_of R x) (fitting R x)
  unfolding automaton_fits fits
  fits-if-few h = rw (le-leb (length (states_of R x)) chained_most (rw counted at h))

  pub unfit-if-many : chained_most < n → automaton_fits lent R x ≡ false
  unfolding automaton_fits fits
  unfit-if-many h = rw (lt-leb (length (states_of R x)) chained_most (rw counted at h))

-- the list that was read, of as many as one automaton may have
module _ (ys : List ℕ) (all : Numbers) (listed : Listed ys all) (few : all.count ≤ chained_most) where
  pub listed_at : (k : ℕ) → get_or all.numbers k 0 ≡ get_or ys k 0
  listed_at k =
      ⊎_elim (λ le. past_end all.numbers k (omega (arith, listed.room)) ∙ sym (past_end ys k (omega (arith, listed.count)))) (λ lt. listed.each k lt) (le-or-gt chained_most k)

  pub listed-all : take all.count all.numbers ≡ ys
  listed-all =
      let size : length (take all.count all.numbers) ≡ all.count = length-take-le all.count all.numbers (omega (arith, listed.room)) in
      ext_get_or 0 (take all.count all.numbers) ys (size ∙ listed.count)
      (λ i l. get_or-take all.count all.numbers i 0 (omega (arith, size)) ∙ listed_at i)

-- question 12 of each of them
pub fits-listed : (R : List ℕ) (x v : ℕ) (all : Numbers) → Listed (states_of R x) all → all.count ≤ chained_most → v ≡ variables R x
    → all_of (take all.count all.numbers) (λ q. transitions_fit R v (take all.count all.numbers) (transitions_of R q)) ≡ automaton_fits lent R x
fits-listed R x v all listed few ev = rw (ev, listed-all (states_of R x) all listed few) (sym (fits-if-few R x listed.count few))

-- ---- question 13 of the states on a chain

pub total-along : (R : List ℕ) (x : ℕ) (a r : Totality) → a.sheet.now ≡ R → a.variables ≡ variables R x → a.all ≡ true
    → Until StateTaken SomeNot (records (record_word R (states_from (automata R)) state_words) state_words (states R) (initial R x)) a r → r.all ≡ automaton_total R x
unfolding automaton_total
total-along R x a r sheet few fresh until =
    let test : ℕ → Bool = λ q. total R (variables R x) (transitions_of R q) in
    all-until StateTaken SomeNot (record_word R (states_from (automata R)) state_words) state_words (λ b. b.all) (λ b. (b.sheet.now ≡ R) × (b.variables ≡ variables R x)) test
    (λ b d. d) (λ b c q took h. ((took.sheet ∙ h.0, took.variables ∙ h.1), rw (h.0, h.1) at took.all)) (states R) (initial R x) a r until (sheet, few)
    ∙ ap (λ z. z && all_of (states_of R x) test) fresh

-- the variables that question 9 has bounded
pub few-variables : (R : List ℕ) (x : ℕ) → T (q9 lent R) → 1 ≤ x → x ≤ automata R → variables R x ≤ variables_most
unfolding q9 fits
few-variables R x t lo hi =
    leb→le (variables R x) variables_most (and_left (fits (most variables_most) (variables R x)) (within 1 (states R) (initial R x)) (each_at (automata R) _ t x lo hi))
