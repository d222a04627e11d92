-- One turn of a growing set of pairs keeps what holds of it, and leaves less to be done.
use mathlib.Core.Path.{◌≡◌, refl}
use mathlib.Core.Logic.{◌⊎◌, inl, inr, ⊎_elim, ⊎_map, by_cases}
use Prim.Native.Nat.{ℕ, ◌+◌, ◌≤◌, ◌<◌}
use native.Mathlib.Omega.{arith}
use native.Mathlib.Decide.{ℕ_discrete}
use mathlib.Core.List.{List}
use mathlib.Core.Bool.{Bool, not, ◌&&◌}
use lib.Dec.{T, T_not, not_T, eqb, ltb, lt→ltb, eqb→eq, eqb_refl}
use Rattle.sheets.proofs.Tests.{test, contrary, twice-not, and_left, and_right, and_both, or_left, or_right, or_cases}
use Rattle.truth.specs.Sizes.{positions_most, table_rows, cell}
use Rattle.truth.specs.inner.Rows.{rows_has}
use Rattle.truth.specs.inner.Pairs.{PairStep, UpTo, Transposed, there, time_of, Timed, Sooner}
use Rattle.truth.specs.inner.Growing.{enters, below, Turn, left, Growing}
use Rattle.truth.proofs.rows.RowLaws.{held_in}
use Rattle.truth.proofs.structure.EdgesBack.{back-of, edge_of}
use Rattle.truth.proofs.PairWeights.{weight-falls}
use Rattle.truth.proofs.growth.Spreading.{turn-new}

module _ {allow back : List ℕ} {t p' time : ℕ} {ys new times ys' new' times' : List ℕ} (turn : Turn allow back t p' time ys new times ys' new' times') where
  -- the pairs that are added
  abbrev e : ℕ → ℕ → Bool
  e = below t (enters allow p' turn.prev)

  still : (p s : ℕ) → T (rows_has ys p s) → T (rows_has ys' p s)
  still p s x = rw (turn.spread.met p s) (or_left (rows_has ys p s) (e p s) x)

  added : (p s : ℕ) → T (e p s) → T (rows_has ys' p s)
  added p s x = rw (turn.spread.met p s) (or_right (rows_has ys p s) (e p s) x)

  met-cases : (p s : ℕ) → T (rows_has ys' p s) → T (rows_has ys p s) ⊎ T (e p s)
  met-cases p s x = or_cases (rows_has ys p s) (e p s) (rw (turn.spread.met p s) at x)

  -- a new pair was new, at another position, or is added now
  abbrev Fresh : ℕ → ℕ → Type 0
  Fresh p s = (T (rows_has new p s) × (p ≡ p' → ⊥)) ⊎ (T (e p s) × T (not (rows_has ys p s)))

  new-cases : (p s : ℕ) → T (rows_has new' p s) → Fresh p s
  new-cases p s x =
      ⊎_map (λ y. (and_left (rows_has new p s) (not (eqb p p')) y, λ q. T_not (eqb p p') (and_right (rows_has new p s) (not (eqb p p')) y) (rw q (eqb_refl p'))))
      (λ y. (and_left (e p s) (not (rows_has ys p s)) y, and_right (e p s) (not (rows_has ys p s)) y))
      (or_cases (rows_has new p s && not (eqb p p')) (e p s && not (rows_has ys p s)) (rw (turn-new turn p s) at x))

  is-new : (p s : ℕ) → Fresh p s → T (rows_has new' p s)
  is-new p s x =
      rw (turn-new turn p s)
      (⊎_elim
      (λ y. or_left (rows_has new p s && not (eqb p p')) (e p s && not (rows_has ys p s))
      (and_both (rows_has new p s) (not (eqb p p')) y.0 (not_T (eqb p p') (λ q. y.1 (eqb→eq p p' q)))))
      (λ y. or_right (rows_has new p s && not (eqb p p')) (e p s && not (rows_has ys p s)) (and_both (e p s) (not (rows_has ys p s)) y.0 y.1)) x)

  -- ---- a pair of p' that was new is no more

  pub turn-fewer : (u : ℕ) → p' < t → T (rows_has new p' u) → left t ys' new' < left t ys new
  turn-fewer u h x =
      let r = held_in _ _ u x in
      weight-falls t (λ p s. not (rows_has ys p s)) (rows_has new) (λ p s. not (rows_has ys' p s)) (rows_has new') (λ p s. contrary (rows_has ys p s) (rows_has ys' p s) (still p s))
      (λ p s y. ⊎_map (λ z. z.0) (gained p s) (new-cases p s y)) p' u h r.0 r.1 x (λ y. ⊎_elim (λ z. absurd (z.1 refl)) (gained p' u) (new-cases p' u y))
    where
      gained : (p s : ℕ) → T (e p s) × T (not (rows_has ys p s)) → T (not (rows_has ys p s)) × T (not (not (rows_has ys' p s)))
      gained p s y = (y.1, twice-not (rows_has ys' p s) (added p s y.0))

  -- ---- what holds of a growing set

  module _ {next : List ℕ} {n : ℕ} {xs : List ℕ} (below-t : p' < t) (few : t ≤ positions_most) (transposed : Transposed n next back) (up_to : UpTo n table_rows allow)
      (g : Growing allow next n t xs ys new times time) where
    e-allowed : (p s : ℕ) → T (e p s) → T (rows_has allow (cell p p') s)
    e-allowed p s x = and_left (rows_has allow (cell p p') s) (turn.prev s) (and_right (ltb p t) (enters allow p' turn.prev p s) x)

    -- a pair that is added steps to a pair that was new
    e-step : (p s : ℕ) → T (e p s) → (u : ℕ) × PairStep allow next t p s p' u × T (rows_has ys p' u)
    e-step p s x =
        let r = (turn.before s).0 (and_right (rows_has allow (cell p p') s) (turn.prev s) (and_right (ltb p t) (enters allow p' turn.prev p s) x)) in
        let y = g.fresh p' r.0 below-t r.1 in
        let moves = edge_of n next back transposed s r.0 (held_in _ _ r.0 y).0 (g.up_to p' r.0 below-t y) r.2 in
        (r.0, record { below = below-t; allowed = e-allowed p s x; moves = moves }, y)

    -- and a pair with a step to a pair that was new is added
    step-e : (p s s' : ℕ) → p < t → PairStep allow next t p s p' s' → T (rows_has new p' s') → T (e p s)
    step-e p s s' h st x =
        let y = g.fresh p' s' below-t x in
        let r = held_in _ _ s st.allowed in
        let up = up_to (cell p p') s (omega arith) st.allowed in
        let b = back-of n next back transposed s s' (held_in _ _ s' y).0 (g.up_to p' s' below-t y) r.0 r.1 up st.moves in
        and_both (ltb p t) (enters allow p' turn.prev p s) (lt→ltb p t h)
        (and_both (rows_has allow (cell p p') s) (turn.prev s) st.allowed ((turn.before s).1 (s', x, b)))

    done : (p s q s' : ℕ) → p < t → PairStep allow next t p s q s' → T (rows_has ys' q s') → T (rows_has ys' p s) ⊎ T (rows_has new' q s')
    done p s q s' h st x = ⊎_elim old fresh (test (rows_has ys q s'))
      where
        fresh : T (not (rows_has ys q s')) → T (rows_has ys' p s) ⊎ T (rows_has new' q s')
        fresh m = ⊎_elim (λ y. absurd (T_not (rows_has ys q s') m y)) (λ y. inr (is-new q s' (inr (y, m)))) (met-cases q s' x)

        waiting : T (rows_has new q s') → T (rows_has ys' p s) ⊎ T (rows_has new' q s')
        waiting y = by_cases (ℕ_discrete q p') (λ d. inl (added p s (step-e p s s' h (rw d at st) (rw d at y)))) (λ m. inr (is-new q s' (inl (y, m))))

        old : T (rows_has ys q s') → T (rows_has ys' p s) ⊎ T (rows_has new' q s')
        old y = ⊎_elim (λ z. inl (still p s z)) waiting (g.done p s q s' h st y)

    -- times are kept as before
    kept-room : Timed times' → Timed times
    kept-room = λ r. rw turn.spread.times-size at r

    falls : Timed times' → (p s : ℕ) → p < t → T (rows_has ys' p s) → T (rows_has xs p s) ⊎ Sooner allow next t ys' times' p s
    falls room p s h x = ⊎_elim old new-one (test (rows_has ys p s))
      where
        old : T (rows_has ys p s) → T (rows_has xs p s) ⊎ Sooner allow next t ys' times' p s
        old y =
            ⊎_map (λ z. z)
            (λ r. (r.0, r.1, r.2, still r.0 r.1 r.3, rw (turn.spread.kept r.0 r.1 r.3, turn.spread.kept p s y) r.4))
            (g.falls (kept-room room) p s h y)

        new-one : T (not (rows_has ys p s)) → T (rows_has xs p s) ⊎ Sooner allow next t ys' times' p s
        new-one m =
            ⊎_elim (λ y. absurd (T_not (rows_has ys p s) m y))
            (λ y. let r = e-step p s y in
            inr (p', r.0, r.1, still p' r.0 r.2, rw (turn.spread.kept p' r.0 r.2, turn.spread.timed (kept-room room) p s m y) (g.early (kept-room room) p' r.0 below-t r.2)))
            (met-cases p s x)

    early : Timed times' → (p s : ℕ) → p < t → T (rows_has ys' p s) → time_of times' p s < time + 1
    early room p s h x =
        ⊎_elim (λ y. omega (arith, turn.spread.kept p s y, g.early (kept-room room) p s h y))
        (λ m. ⊎_elim (λ y. absurd (T_not (rows_has ys p s) m y)) (λ y. omega (arith, turn.spread.timed (kept-room room) p s m y)) (met-cases p s x)) (test (rows_has ys p s))

    pub turn-grows : Growing allow next n t xs ys' new' times' (time + 1)
    turn-grows = record {
      keeps = λ p s h x. still p s (g.keeps p s h x);
      reaches = λ p s h x. ⊎_elim (g.reaches p s h) (λ y. let r = e-step p s y in there r.1 (g.reaches p' r.0 below-t r.2)) (met-cases p s x);
      fresh = λ p s h x. ⊎_elim (λ y. still p s (g.fresh p s h y.0)) (λ y. added p s y.0) (new-cases p s x);
      up_to = λ p s h x. ⊎_elim (g.up_to p s h) (λ y. up_to (cell p p') s (omega arith) (e-allowed p s y)) (met-cases p s x);
      done = done;
      falls = falls;
      early = early;
    }
