-- Pairs added to a table: additions after each other, those of the members of a set, and what is new after a turn.
use mathlib.Core.Path.{◌≡◌, refl, subst, fun_ext, ◌∙◌}
use mathlib.Core.Logic.{⊎_elim, by_cases}
use Prim.Native.Nat.{ℕ, ◌+◌, ◌-◌, ◌≤◌, ◌<◌}
use native.Mathlib.Omega.{arith}
use native.Mathlib.Decide.{ℕ_discrete}
use mathlib.Core.List.{List}
use mathlib.Core.Bool.{Bool, true, false, not, ◌&&◌, ◌||◌, and-true, or-false, or_assoc}
use lib.Dec.{T, not_T, eqb, ltb, lt→ltb, ltb→lt}
use Rattle.sheets.proofs.Tests.{test, passed, failed, and_left, and_right, and_both, or_left, or_right, eqb_same, eqb-other}
use Rattle.sheets.proofs.Positions.{same_tests}
use Rattle.truth.specs.inner.Rows.{rows_has}
use Rattle.truth.specs.inner.Pairs.{time_of, Timed}
use Rattle.truth.specs.inner.Growing.{Spread, enters, below, Turn}
use Rattle.truth.proofs.rows.RowWalks.{Less, and-not}

-- ---- additions after each other
or-fresh : (n y e f : Bool) → ((n || (e && not y)) || (f && not (y || e))) ≡ (n || ((e || f) && not y))
or-fresh true y e f = refl
or-fresh false true true true = refl
or-fresh false true true false = refl
or-fresh false true false true = refl
or-fresh false true false false = refl
or-fresh false false true true = refl
or-fresh false false true false = refl
or-fresh false false false true = refl
or-fresh false false false false = refl

module _ {e : ℕ → ℕ → Bool} {time : ℕ} {ys new times : List ℕ} where
  pub spread_none : ((p s : ℕ) → e p s ≡ false) → Spread e time ys new times ys new times
  spread_none none = record {
    ys-size = refl;
    new-size = refl;
    times-size = refl;
    met = λ p s. rw (none p s, or-false (rows_has ys p s));
    fresh = λ p s. rw (none p s, or-false (rows_has new p s));
    kept = λ p s t. refl;
    timed = λ h p s n t. absurd (rw (none p s) at t);
  }

  module _ {f g : ℕ → ℕ → Bool} (join : (p s : ℕ) → g p s ≡ (e p s || f p s)) {ys' new' times' ys'' new'' times'' : List ℕ}
      (one : Spread e time ys new times ys' new' times') (two : Spread f time ys' new' times' ys'' new'' times'') where
    kept_on : (p s : ℕ) → T (rows_has ys p s || e p s) → time_of times'' p s ≡ time_of times' p s
    kept_on p s t = two.kept p s (rw (one.met p s) t)

    timed-on : Timed times → (p s : ℕ) → T (not (rows_has ys p s)) → T (g p s) → time_of times'' p s ≡ time
    timed-on h p s n t =
        ⊎_elim (λ x. kept_on p s (or_right (rows_has ys p s) (e p s) x) ∙ one.timed h p s n x)
        (λ x. two.timed (rw one.times-size h) p s (rw (one.met p s, failed (rows_has ys p s) n) x) (rest x)) (test (e p s))
      where
        rest : T (not (e p s)) → T (f p s)
        rest x = rw (join p s, failed (e p s) x) at t

    pub spread-more : Spread g time ys new times ys'' new'' times''
    spread-more = record {
      ys-size = two.ys-size ∙ one.ys-size;
      new-size = two.new-size ∙ one.new-size;
      times-size = two.times-size ∙ one.times-size;
      met = λ p s. two.met p s ∙ rw (one.met p s, join p s) (or_assoc (rows_has ys p s) (e p s) (f p s));
      fresh = λ p s. two.fresh p s ∙ rw (one.fresh p s, one.met p s, join p s) (or-fresh (rows_has new p s) (rows_has ys p s) (e p s) (f p s));
      kept = λ p s t. kept_on p s (or_left (rows_has ys p s) (e p s) t) ∙ one.kept p s t;
      timed = timed-on;
    }

-- ---- the same pairs
pub spread_same : {e f : ℕ → ℕ → Bool} {time : ℕ} {ys new times ys' new' times' : List ℕ} → ((p s : ℕ) → e p s ≡ f p s)
    → Spread e time ys new times ys' new' times' → Spread f time ys new times ys' new' times'
spread_same {time = time} {ys} {new} {times} {ys'} {new'} {times'} same =
    subst (λ (g : ℕ → ℕ → Bool). Spread g time ys new times ys' new' times') (fun_ext (λ p. fun_ext (same p)))

-- ---- the pairs of the members of `from` that are not left
abbrev pub among : (ℕ → Bool) → (ℕ → Bool) → (ℕ → ℕ → Bool) → ℕ → ℕ → Bool
among from left e p s = (from (p + 1) && not (left (p + 1))) && e p s

module _ (from : ℕ → Bool) (e : ℕ → ℕ → Bool) where
  pub among_none : (p s : ℕ) → among from from e p s ≡ false
  among_none p s = and-not (from (p + 1)) (e p s)

  pub among_next : (left left' : ℕ → Bool) (u : ℕ) → Less left u left' → T (left u) → T (from u) → 1 ≤ u → (p s : ℕ)
      → among from left' e p s ≡ (among from left e p s || (eqb p (u - 1) && e (u - 1) s))
  among_next left left' u less t f lo p s = by_cases (ℕ_discrete p (u - 1)) here other
    where
      here : p ≡ u - 1 → among from left' e p s ≡ (among from left e p s || (eqb p (u - 1) && e (u - 1) s))
      here d =
          let h : u - 1 + 1 ≡ u = omega arith in
          rw (d, h, less u, passed (from u) f, passed (left u) t, eqb_same u, eqb_same (u - 1))

      other : (p ≡ u - 1 → ⊥) → among from left' e p s ≡ (among from left e p s || (eqb p (u - 1) && e (u - 1) s))
      other n =
          let m : p + 1 ≡ u → ⊥ = λ q. n (omega arith) in
          rw (less (p + 1), eqb-other (p + 1) u m, eqb-other p (u - 1) n, and-true (left (p + 1)), or-false (among from left e p s))

  -- none is left, and the others have no pair
  pub among-end : (left : ℕ → Bool) (t : ℕ) → ((u : ℕ) → T (left u) → ⊥) → ((u : ℕ) → T (from u) → u ≤ t) → ((p s : ℕ) → p < t → T (e p s) → T (from (p + 1)))
      → (p s : ℕ) → among from left e p s ≡ below t e p s
  among-end left t none few all p s =
      same_tests (among from left e p s) (below t e p s)
      (λ x. let f = and_left (from (p + 1)) (not (left (p + 1))) (and_left (from (p + 1) && not (left (p + 1))) (e p s) x) in
      let l = few (p + 1) f in
      and_both (ltb p t) (e p s) (lt→ltb p t (omega arith)) (and_right (from (p + 1) && not (left (p + 1))) (e p s) x))
      (λ x. let y = and_right (ltb p t) (e p s) x in
      and_both (from (p + 1) && not (left (p + 1))) (e p s)
      (and_both (from (p + 1)) (not (left (p + 1))) (all p s (ltb→lt p t (and_left (ltb p t) (e p s) x)) y) (not_T (left (p + 1)) (none (p + 1)))) y)

-- ---- a turn
pub turn-new : {allow back : List ℕ} {t p' time : ℕ} {ys new times ys' new' times' : List ℕ} (turn : Turn allow back t p' time ys new times ys' new' times') (p s : ℕ)
    → rows_has new' p s ≡ ((rows_has new p s && not (eqb p p')) || (below t (enters allow p' turn.prev) p s && not (rows_has ys p s)))
turn-new turn p s = turn.spread.fresh p s ∙ rw (turn.clears.rows p s)
