-- A loop over the nodes of a row, which takes one out of what is left each turn: what is left becomes less; the nodes before the row's,
-- gathered; the nodes sorted, and filtered, by a test; what holds of each member that was visited.
use mathlib.Core.Path.{◌≡◌, refl}
use mathlib.Core.Logic.{◌⊎◌, inl, inr, ◌↔◌, ⊎_elim, ⊎_map, by_cases}
use Prim.Native.Nat.{ℕ, ◌+◌, ◌-◌, ◌*◌, ◌≤◌, ◌<◌}
use native.Mathlib.Decide.{ℕ_discrete}
use mathlib.Core.List.{List}
use mathlib.Core.Bool.{Bool, true, false, not, ◌&&◌, ◌||◌}
use lib.ListN.{get_or}
use lib.Dec.{T, not_T, T_not, eqb, eqb→eq, eqb_refl}
use Rattle.sheets.specs.Words.{within}
use Rattle.sheets.proofs.Tests.{and_left, and_right, and_both, or_left, or_right, or_cases, eqb-other}
use Rattle.sheets.proofs.Search.{within_in}
use Rattle.sheets.proofs.Counting.{number, number-strict}
use Rattle.truth.specs.Sizes.{row_words, members_most}
use Rattle.truth.specs.inner.Rows.{held, rows_has}
use Rattle.truth.specs.inner.Pairs.{Before}

-- ---- a node taken out

-- `left'` is `left` without u
abbrev pub Less : (ℕ → Bool) → ℕ → (ℕ → Bool) → Type 0
Less left u left' = (i : ℕ) → left' i ≡ (left i && not (eqb i u))

module _ (left left' : ℕ → Bool) (u : ℕ) (less : Less left u left') where
  pub less-in : (i : ℕ) → T (left' i) → T (left i)
  less-in i t = and_left (left i) (not (eqb i u)) (rw (less i) at t)

  -- a node was the one that is out, or is left
  pub less-or : (i : ℕ) → T (left i) → (i ≡ u) ⊎ T (left' i)
  less-or i t = by_cases (ℕ_discrete i u) inl (λ n. inr (rw (less i, eqb-other i u n) (and_both (left i) true t tt)))

  pub less-falls : 1 ≤ u → u ≤ members_most → T (left u) → number members_most left' < number members_most left
  less-falls lo hi t = number-strict members_most left' left (λ i l h. less-in i) (u, lo, hi, (out, t))
    where
      out : T (not (left' u))
      out = not_T (left' u) (λ x. T_not (eqb u u) (and_right (left u) (not (eqb u u)) (rw (less u) at x)) (eqb_refl u))

-- at first none is out
pub and-not : (a b : Bool) → ((a && not a) && b) ≡ false
and-not true b = refl
and-not false b = refl

-- ---- the nodes before the row's: `out` has those before a node that is not left
pub record Gathered (back : List ℕ) (from left out : ℕ → Bool) : Type 0 where
  pub fewer : (u : ℕ) → T (left u) → T (from u)
  pub found : (s : ℕ) → T (out s) → Before back from s
  pub passed : (u s : ℕ) → T (from u) → T (rows_has back (u - 1) s) → T (left u) ⊎ T (out s)

module _ (back : List ℕ) (from : ℕ → Bool) where
  pub gathered_none : (out : ℕ → Bool) → ((s : ℕ) → out s ≡ false) → Gathered back from from out
  gathered_none out e = record { fewer = λ u t. t; found = λ s t. absurd (rw (e s) at t); passed = λ u s t b. inl t }

  pub gathered_next : (left left' out out' : ℕ → Bool) (u a b : ℕ) → Gathered back from left out → T (left u) → Less left u left'
      → a ≡ get_or back (row_words * (u - 1)) 0 → b ≡ get_or back (row_words * (u - 1) + 1) 0 → ((s : ℕ) → out' s ≡ (out s || held a b s)) → Gathered back from left' out'
  gathered_next left left' out out' u a b g t less ea eb more = record {
    fewer = λ v x. g.fewer v (less-in left left' u less v x);
    found = λ s x. ⊎_elim (g.found s) (λ y. (u, g.fewer u t, rw (ea, eb) at y)) (or_cases (out s) (held a b s) (rw (more s) at x));
    passed = λ v s x y. ⊎_elim (stays v s y) (λ o. inr (rw (more s) (or_left (out s) (held a b s) o))) (g.passed v s x y);
  }
    where
      stays : (v s : ℕ) → T (rows_has back (v - 1) s) → T (left v) → T (left' v) ⊎ T (out' s)
      stays v s y l =
          ⊎_elim (λ e. inr (rw (more s, ea, eb) (or_right (out s) (rows_has back (u - 1) s) (rw e at y)))) inl (less-or left left' u less v l)

  pub gathered-end : (left out : ℕ → Bool) → Gathered back from left out → ((u : ℕ) → T (left u) → ⊥) → (s : ℕ) → T (out s) ↔ Before back from s
  gathered-end left out g none s = (g.found s, λ b. ⊎_elim (λ l. absurd (none b.0 l)) (λ o. o) (g.passed b.0 s b.1 b.2))

-- ---- the nodes sorted by a test P: `out` has those that are not left and fail
pub record Sorted (P : ℕ → Type 0) (look left out : ℕ → Bool) : Type 0 where
  pub rest : (s : ℕ) → T (left s) → T (look s)
  pub fewer : (s : ℕ) → T (out s) → T (look s)
  pub none : (s : ℕ) → T (out s) → P s → ⊥
  pub others : (s : ℕ) → T (look s) → T (left s) ⊎ (T (out s) ⊎ P s)

module _ (P : ℕ → Type 0) (look : ℕ → Bool) where
  pub sorted_none : (out : ℕ → Bool) → ((s : ℕ) → out s ≡ false) → Sorted P look look out
  sorted_none out e = record { rest = λ s t. t; fewer = λ s t. absurd (rw (e s) at t); none = λ s t. absurd (rw (e s) at t); others = λ s t. inl t }

  module _ (left left' out : ℕ → Bool) (u : ℕ) (g : Sorted P look left out) (t : T (left u)) (less : Less left u left') where
    pub sorted-yes : P u → Sorted P look left' out
    sorted-yes y = record {
      rest = λ s x. g.rest s (less-in left left' u less s x);
      fewer = g.fewer;
      none = g.none;
      others = λ s x. ⊎_elim (λ l. ⊎_elim (λ e. inr (inr (rw e y))) inl (less-or left left' u less s l)) inr (g.others s x);
    }

    module _ (out' : ℕ → Bool) (more : (i : ℕ) → out' i ≡ (out i || (within 1 members_most u && eqb i u))) where
      more-cases : (s : ℕ) → T (out' s) → T (out s) ⊎ (s ≡ u)
      more-cases s x = ⊎_map (λ o. o) (λ w. eqb→eq s u (and_right (within 1 members_most u) (eqb s u) w)) (or_cases (out s) (within 1 members_most u && eqb s u) (rw (more s) at x))

      pub sorted-no : 1 ≤ u → u ≤ members_most → (P u → ⊥) → Sorted P look left' out'
      sorted-no lo hi n = record {
        rest = λ s x. g.rest s (less-in left left' u less s x);
        fewer = λ s x. ⊎_elim (g.fewer s) (λ e. rw e (g.rest u t)) (more-cases s x);
        none = λ s x. ⊎_elim (g.none s) (λ e y. n (rw e at y)) (more-cases s x);
        others = λ s x. ⊎_elim (λ l. ⊎_elim (λ e. inr (inl (rw e here))) inl (less-or left left' u less s l)) (λ r. inr (⊎_map (was s) (λ y. y) r)) (g.others s x);
      }
        where
          here : T (out' u)
          here = rw (more u) (or_right (out u) (within 1 members_most u && eqb u u) (and_both (within 1 members_most u) (eqb u u) (within_in 1 members_most u lo hi) (eqb_refl u)))

          was : (s : ℕ) → T (out s) → T (out' s)
          was s o = rw (more s) (or_left (out s) (within 1 members_most u && eqb s u) o)

-- ---- the nodes filtered by a test: `out` has those that are not left and pass, of which Y holds; N holds of the others
pub record Filtered (Y N : ℕ → Type 0) (row left out : ℕ → Bool) : Type 0 where
  pub rest : (s : ℕ) → T (left s) → T (row s)
  pub passed : (s : ℕ) → T (out s) → T (row s) × Y s
  pub others : (s : ℕ) → T (row s) → T (left s) ⊎ (T (out s) ⊎ N s)

module _ (Y N : ℕ → Type 0) (row : ℕ → Bool) where
  pub filtered_none : (out : ℕ → Bool) → ((s : ℕ) → out s ≡ false) → Filtered Y N row row out
  filtered_none out e = record { rest = λ s t. t; passed = λ s t. absurd (rw (e s) at t); others = λ s t. inl t }

  module _ (left left' out : ℕ → Bool) (u : ℕ) (g : Filtered Y N row left out) (t : T (left u)) (less : Less left u left') where
    pub filtered-no : N u → Filtered Y N row left' out
    filtered-no n = record {
      rest = λ s x. g.rest s (less-in left left' u less s x);
      passed = g.passed;
      others = λ s x. ⊎_elim (λ l. ⊎_elim (λ e. inr (inr (rw e n))) inl (less-or left left' u less s l)) inr (g.others s x);
    }

    module _ (out' : ℕ → Bool) (more : (i : ℕ) → out' i ≡ (out i || (within 1 members_most u && eqb i u))) where
      added : (s : ℕ) → T (out' s) → T (out s) ⊎ (s ≡ u)
      added s x = ⊎_map (λ o. o) (λ w. eqb→eq s u (and_right (within 1 members_most u) (eqb s u) w)) (or_cases (out s) (within 1 members_most u && eqb s u) (rw (more s) at x))

      pub filtered-yes : 1 ≤ u → u ≤ members_most → Y u → Filtered Y N row left' out'
      filtered-yes lo hi y = record {
        rest = λ s x. g.rest s (less-in left left' u less s x);
        passed = λ s x. ⊎_elim (g.passed s) (λ e. rw e (g.rest u t, y)) (added s x);
        others = λ s x. ⊎_elim (λ l. ⊎_elim (λ e. inr (inl (rw e here))) inl (less-or left left' u less s l)) (λ r. inr (⊎_map (was s) (λ n. n) r)) (g.others s x);
      }
        where
          here : T (out' u)
          here = rw (more u) (or_right (out u) (within 1 members_most u && eqb u u) (and_both (within 1 members_most u) (eqb u u) (within_in 1 members_most u lo hi) (eqb_refl u)))

          was : (s : ℕ) → T (out s) → T (out' s)
          was s o = rw (more s) (or_left (out s) (within 1 members_most u && eqb s u) o)

-- ---- the members visited: P holds of those that are not left
pub record Visited (P : ℕ → Type 0) (from left : ℕ → Bool) : Type 0 where
  pub fewer : (u : ℕ) → T (left u) → T (from u)
  pub passed : (u : ℕ) → T (from u) → T (left u) ⊎ P u

module _ (P : ℕ → Type 0) (from : ℕ → Bool) where
  pub visited-none : Visited P from from
  visited-none = record { fewer = λ u t. t; passed = λ u t. inl t }

  module _ (left : ℕ → Bool) (g : Visited P from left) where
    pub visited-end : ((u : ℕ) → T (left u) → ⊥) → (u : ℕ) → T (from u) → P u
    visited-end none u t = ⊎_elim (λ l. absurd (none u l)) (λ p. p) (g.passed u t)

    -- one more, after which Q holds where P did
    pub visited-next : (Q : ℕ → Type 0) (left' : ℕ → Bool) (u : ℕ) → Less left u left' → ((v : ℕ) → P v → Q v) → Q u → Visited Q from left'
    visited-next Q left' u less on here = record {
      fewer = λ v x. g.fewer v (less-in left left' u less v x);
      passed = λ v x. ⊎_elim (λ l. ⊎_elim (λ e. inr (rw e here)) inl (less-or left left' u less v l)) (λ y. inr (on v y)) (g.passed v x);
    }
