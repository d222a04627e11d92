-- The pairs that one row adds to a growing set: those of its nodes that were not met.
use mathlib.Core.Path.{◌≡◌, refl, sym, ◌∙◌}
use mathlib.Core.Logic.{by_cases}
use Prim.Native.Nat.{ℕ}
use native.Mathlib.Decide.{ℕ_discrete}
use mathlib.Core.List.{List}
use mathlib.Core.Bool.{Bool, true, false, not, ◌&&◌, ◌||◌, and-true, and-false, or-false}
use lib.ListN.{length}
use lib.Dec.{T, T_not, not_T, eqb, eqb→eq}
use Rattle.sheets.specs.Words.{each}
use Rattle.sheets.proofs.Tests.{failed, and_left, and_right, and_both, eqb_same, eqb-other}
use Rattle.truth.specs.Sizes.{members_most}
use Rattle.truth.specs.inner.Rows.{held, rows_has}
use Rattle.truth.specs.inner.Pairs.{time_of, Timed}
use Rattle.truth.specs.inner.Growing.{TimePut, Spread}
use Rattle.truth.proofs.rows.RowLaws.{held_in, none_passes}

-- the nodes x of E that were not met
or_new : (y e : Bool) → (y || (e && not y)) ≡ (y || e)
or_new true e = refl
or_new false e = and-true e

module _ (E x : ℕ → Bool) (p time : ℕ) (ys new times ys' new' times' : List ℕ) (x-is : (s : ℕ) → x s ≡ (E s && not (rows_has ys p s))) where
  module _ (ys-size : length ys' ≡ length ys) (new-size : length new' ≡ length new) (met : (q s : ℕ) → rows_has ys' q s ≡ (rows_has ys q s || (eqb q p && x s)))
      (fresh : (q s : ℕ) → rows_has new' q s ≡ (rows_has new q s || (eqb q p && x s))) (put : TimePut x p time times times') where
    met-is : (q s : ℕ) → rows_has ys' q s ≡ (rows_has ys q s || (eqb q p && E s))
    met-is q s = met q s ∙ by_cases (ℕ_discrete q p) (λ e. rw (e, eqb_same p, x-is s) (or_new (rows_has ys p s) (E s))) (λ n. rw (eqb-other q p n))

    fresh-is : (q s : ℕ) → rows_has new' q s ≡ (rows_has new q s || ((eqb q p && E s) && not (rows_has ys q s)))
    fresh-is q s = fresh q s ∙ by_cases (ℕ_discrete q p) (λ e. rw (e, eqb_same p, x-is s)) (λ n. rw (eqb-other q p n))

    kept-is : (q s : ℕ) → T (rows_has ys q s) → time_of times' q s ≡ time_of times q s
    kept-is q s t =
        let r = held_in _ _ s t in
        put.rest q s r.0 r.1 (λ e. not_T (x s) (λ y. T_not (rows_has ys p s) (and_right (E s) (not (rows_has ys p s)) (rw (x-is s) at y)) (rw e at t)))

    timed-is : Timed times → (q s : ℕ) → T (not (rows_has ys q s)) → T (eqb q p && E s) → time_of times' q s ≡ time
    timed-is h q s n t =
        let e = eqb→eq q p (and_left (eqb q p) (E s) t) in
        rw e (put.timed h s (rw (x-is s) (and_both (E s) (not (rows_has ys p s)) (and_right (eqb q p) (E s) t) (rw e at n))))

    pub spread-one : Spread (λ q s. eqb q p && E s) time ys new times ys' new' times'
    spread-one = record {
      ys-size = ys-size;
      new-size = new-size;
      times-size = put.size;
      met = met-is;
      fresh = fresh-is;
      kept = kept-is;
      timed = timed-is;
    }

-- nothing to add
module _ (E : ℕ → Bool) (a b p time : ℕ) (ys new times : List ℕ) (x-is : (s : ℕ) → held a b s ≡ (E s && not (rows_has ys p s))) where
  pub spread-empty : true ≡ each members_most (λ s. not (held a b s)) → Spread (λ q s. eqb q p && E s) time ys new times ys new times
  spread-empty e =
      spread-one E (held a b) p time ys new times ys new times x-is refl refl (λ q s. unchanged (rows_has ys q s) q s) (λ q s. unchanged (rows_has new q s) q s)
      (record { size = refl; timed = λ h s t. absurd (rw (gone s) at t); rest = λ q s lo hi n. refl })
    where
      gone : (s : ℕ) → held a b s ≡ false
      gone s = failed (held a b s) (not_T (held a b s) (none_passes (held a b) (held_in a b) (sym e) s))

      unchanged : (y : Bool) (q s : ℕ) → y ≡ (y || (eqb q p && held a b s))
      unchanged y q s = rw (gone s, and-false (eqb q p), or-false y)
