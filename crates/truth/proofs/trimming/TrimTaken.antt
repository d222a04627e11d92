-- One row's nodes taken from a set to what is gone: a store in each of the two tables.
use mathlib.Core.Path.{◌≡◌, ◌∙◌}
use mathlib.Core.Logic.{◌⊎◌, inl, inr, ⊎_elim, ⊎_map, by_cases}
use Prim.Native.Nat.{ℕ, ◌+◌, ◌*◌, ◌<◌}
use native.Mathlib.Decide.{ℕ_discrete}
use mathlib.Core.List.{List}
use mathlib.Core.Bool.{Bool, not, ◌&&◌, ◌||◌}
use lib.ListN.{length}
use lib.Dec.{T, T_not, not_T}
use Rattle.truth.specs.Sizes.{row_words}
use Rattle.sheets.proofs.Tests.{test, and_left, and_right, and_both, or_left, or_right, or_cases}
use Rattle.truth.specs.inner.Rows.{held, rows_has}
use Rattle.truth.specs.inner.Pairs.{Onward, Lasts, Inside}
use Rattle.truth.specs.inner.Trimmed.{Taken, Moved}
use Rattle.truth.proofs.tables.TableLaws.{stored, stored_here, stored_other, stored-length}

-- ---- a store in each of two tables
pub taken : (xs gone : List ℕ) (p a b c d : ℕ) (lost : ℕ → Bool) (hx : row_words * p + 1 < length xs) (hg : row_words * p + 1 < length gone)
    → ((s : ℕ) → held a b s ≡ (rows_has xs p s && not (lost s))) → ((s : ℕ) → held c d s ≡ (rows_has gone p s || lost s))
    → Taken p lost xs gone (stored xs p a b hx) (stored gone p c d hg)
taken xs gone p a b c d lost hx hg kept more = record {
  size = stored-length xs p a b hx;
  size-gone = stored-length gone p c d hg;
  here = λ s. stored_here xs p a b hx s ∙ kept s;
  here-gone = λ s. stored_here gone p c d hg s ∙ more s;
  other = stored_other xs p a b hx;
  other-gone = stored_other gone p c d hg;
}

-- ---- one row's nodes
module _ {p : ℕ} {lost : ℕ → Bool} {xs gone xs' gone' : List ℕ} (k : Taken p lost xs gone xs' gone') where
  pub taken-fewer : (q s : ℕ) → T (rows_has xs' q s) → T (rows_has xs q s)
  taken-fewer q s x =
      by_cases (ℕ_discrete q p) (λ e. rw e (and_left (rows_has xs p s) (not (lost s)) (rw (e, k.here s) at x))) (λ n. rw (k.other q s n) at x)

  pub taken_not : (s : ℕ) → T (rows_has xs' p s) → T (not (lost s))
  taken_not s x = and_right (rows_has xs p s) (not (lost s)) (rw (k.here s) at x)

  pub taken-stays : (q s : ℕ) → T (rows_has xs q s) → T (rows_has xs' q s) ⊎ (q ≡ p × T (lost s))
  taken-stays q s x =
      by_cases (ℕ_discrete q p)
      (λ e. ⊎_elim (λ l. inr (e, l)) (λ n. inl (rw (e, k.here s) (and_both (rows_has xs p s) (not (lost s)) (rw e at x) n))) (test (lost s)))
      (λ n. inl (rw (k.other q s n) x))

  pub taken-gone : (s : ℕ) → T (lost s) → T (rows_has gone' p s)
  taken-gone s l = rw (k.here-gone s) (or_right (rows_has gone p s) (lost s) l)

  pub taken-keeps : (q s : ℕ) → T (rows_has gone q s) → T (rows_has gone' q s)
  taken-keeps q s x =
      by_cases (ℕ_discrete q p) (λ e. rw (e, k.here-gone s) (or_left (rows_has gone p s) (lost s) (rw e at x))) (λ n. rw (k.other-gone q s n) x)

  pub taken-gains : (q s : ℕ) → T (rows_has gone' q s) → T (rows_has gone q s) ⊎ (q ≡ p × T (lost s))
  taken-gains q s x =
      by_cases (ℕ_discrete q p) (λ e. ⊎_map (λ y. rw e y) (λ l. (e, l)) (or_cases (rows_has gone p s) (lost s) (rw (e, k.here-gone s) at x)))
      (λ n. inl (rw (k.other-gone q s n) at x))

  pub taken-moved : (allow next : List ℕ) (t : ℕ) → ((s : ℕ) → T (lost s) → T (rows_has xs p s))
      → ((s : ℕ) → T (lost s) → Onward allow next t (rows_has xs) p s → ⊥) → Moved allow next t xs gone xs' gone'
  taken-moved allow next t inside none = record {
    shrunk = record {
      size = k.size;
      size-gone = k.size-gone;
      fewer = taken-fewer;
      gains = λ q s x. ⊎_map (λ y. y) (λ w. rw w.0 (inside s w.1, not_T (rows_has xs' p s) (λ y. T_not (lost s) (taken_not s y) w.1))) (taken-gains q s x);
      largest = λ W lasts within q s l x. ⊎_elim (λ y. y) (λ w. absurd (never W lasts within q s l x w.0 w.1)) (taken-stays q s (within q s l x));
    };
    stays = λ q s x. ⊎_map (λ y. y) (λ w. rw w.0 (taken-gone s w.1)) (taken-stays q s x);
    keeps = taken-keeps;
  }
    where
      never : (W : ℕ → ℕ → Bool) → Lasts allow next t W → Inside t W xs → (q s : ℕ) → q < t → T (W q s) → q ≡ p → T (lost s) → ⊥
      never W lasts within q s l x e y =
          let r = lasts q s l x in
          let o : Onward allow next t (rows_has xs) q s = (r.0, r.1, r.2, within r.0 r.1 r.2.below r.3) in
          none s y (rw e at o)
