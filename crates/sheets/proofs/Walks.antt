-- Question 14 is exact: the test `unmixed` passes where no accepting and non-accepting state have walks there and back, along edges
-- with nonzero masks among the states, and nowhere else.
use mathlib.Core.Logic.{◌⊎◌, inl, inr, ◌↔◌, ⊎_elim}
use Prim.Native.Nat.{ℕ, zero, suc, ◌≤◌, ◌<◌}
use native.Mathlib.Omega.{arith}
use native.Mathlib.Decide.{le_ind}
use mathlib.Core.List.{List}
use mathlib.Core.Bool.{Bool, not, ◌&&◌}
use lib.ListN.{length}
use lib.Dec.{T, T_not}
use Rattle.sheets.specs.Words.{member, all_of, any_of, how_many}
use Rattle.sheets.specs.Rules.{leads, reached, walks, unmixed, accepting}
use Rattle.sheets.specs.Cycles.{Walk, step, more, May, Mixed}
use Rattle.sheets.proofs.Tests.{and_left, and_right, and_both, or_left, or_right, or_cases, test, surely, not-not, twice-not, contrary}
use Rattle.sheets.proofs.Search.{any_at, any-in, all-at, fails-at, passing-at, passing-in}
use Rattle.sheets.proofs.Counting.{falls, how_many-strict, how_many-most}

module _ (R all : List ℕ) where
  pub walk_from : {p q : ℕ} → Walk (May R all) p q → T (member p all)
  walk_from (step m) = m.from
  walk_from (more w m) = walk_from w

  pub walk-to : {p q : ℕ} → Walk (May R all) p q → T (member q all)
  walk-to (step m) = m.to
  walk-to (more w m) = m.to

  -- ---- what is reached from p
  module _ (p : ℕ) where
    hit : ℕ → ℕ → Bool
    hit k q = member q (reached R all p k)

    hit-all : (k q : ℕ) → T (hit k q) → T (member q all)
    unfolding hit reached
    hit-all zero q t = (passing-at _ all q t).0
    hit-all (suc k) q t = (passing-at _ all q t).0

    hit-first : (q : ℕ) → T (member q all) → T (leads R p q) → T (hit 0 q)
    unfolding hit reached
    hit-first q m t = passing-in _ all q m t

    hit-up : (k q : ℕ) → T (hit k q) → T (hit (suc k) q)
    unfolding hit reached
    hit-up k q t = passing-in _ all q (hit-all k q t) (or_left (hit k q) (any_of (reached R all p k) (λ r. leads R r q)) t)

    hit-next : (k r q : ℕ) → T (hit k r) → T (member q all) → T (leads R r q) → T (hit (suc k) q)
    unfolding hit reached
    hit-next k r q t m l =
        let u = any-in (reached R all p k) (λ r. leads R r q) r t l in
        passing-in _ all q m (or_right (hit k q) (any_of (reached R all p k) (λ r. leads R r q)) u)

    hit_later : (k j q : ℕ) → k ≤ j → T (hit k q) → T (hit j q)
    hit_later k j q le t = le_ind (λ j. T (hit j q)) t (λ j l u. hit-up j q u) j le

    -- a round adds nothing, or leaves fewer states out
    abbrev left : ℕ → ℕ
    left k = how_many all (λ q. not (hit k q))

    hit-step : (k : ℕ) → ((q : ℕ) → T (hit (suc k) q) → T (hit k q)) ⊎ (left (suc k) < left k)
    hit-step k = ⊎_elim (λ t. inr (found t)) (λ n. inl (none n)) (test (any_of all new))
      where
        new : ℕ → Bool
        new q = not (hit k q) && hit (suc k) q

        found : T (any_of all new) → left (suc k) < left k
        found t =
            let a = any_at all new t in
            let x = a.0 in
            how_many-strict all (λ q. not (hit (suc k) q)) (λ q. not (hit k q)) (λ q m. contrary (hit k q) (hit (suc k) q) (hit-up k q))
            x a.1 (twice-not (hit (suc k) x) (search (and_right, a.2))) (search (and_left, a.2))

        none : T (not (any_of all new)) → (q : ℕ) → T (hit (suc k) q) → T (hit k q)
        none n q t =
            surely (hit k q) (λ m. T_not (any_of all new) n (any-in all new q (hit-all (suc k) q t) (and_both (not (hit k q)) (hit (suc k) q) m t)))

    hit-walk : (k : ℕ) → ((q : ℕ) → T (hit (suc k) q) → T (hit k q)) → {q : ℕ} → Walk (May R all) p q → T (hit k q)
    hit-walk k h {q} (step m) = hit_later 0 k q (omega arith) (hit-first q m.to m.leading)
    hit-walk k h {q} (more {q = r} w m) = h q (hit-next k r q (hit-walk k h w) m.to m.leading)

    -- the computed test finds every walk
    pub walks-all : {q : ℕ} → Walk (May R all) p q → T (walks R all p q)
    unfolding walks hit
    walks-all {q} w =
        let r = falls (λ k. (q : ℕ) → T (hit (suc k) q) → T (hit k q)) left hit-step in
        hit_later r.0 (length all) q (omega (arith, how_many-most all (λ q. not (hit 0 q)))) (hit-walk r.0 r.2 w)

    -- and only walks
    module _ (on : T (member p all)) where
      hit-only : (k q : ℕ) → T (hit k q) → Walk (May R all) p q
      unfolding hit reached
      hit-only zero q t = let r = passing-at _ all q t in step (record { from = on; to = r.0; leading = r.1 })
      hit-only (suc k) q t =
          let r = passing-at _ all q t in
          ⊎_elim (hit-only k q)
          (λ u.
          let x = any_at (reached R all p k) (λ r. leads R r q) u in
          more (hit-only k x.0 x.1) (record { from = hit-all k x.0 x.1; to = r.0; leading = x.2 }))
          (or_cases (hit k q) (any_of (reached R all p k) (λ r. leads R r q)) r.1)

      pub walks-only : (q : ℕ) → T (walks R all p q) → Walk (May R all) p q
      unfolding walks hit
      walks-only q = hit-only (length all) q

  -- two states are mixed, as the test has it: where `unmixed` says yes no two are, and where it says no some two are
  abbrev pub mixes : ℕ → ℕ → Bool
  mixes p q = accepting R p && not (accepting R q) && walks R all p q && walks R all q p

  pub none-mixes : T (unmixed R all) → (p q : ℕ) → T (member p all) → T (member q all) → T (mixes p q) → ⊥
  unfolding unmixed
  none-mixes t p q on on' = T_not (mixes p q) (all-at all _ (all-at all _ t p on) q on')

  pub some-mix : T (not (unmixed R all)) → (p q : ℕ) × T (member p all) × T (member q all) × T (mixes p q)
  unfolding unmixed
  some-mix t =
      let a = fails-at all (λ p. all_of all (λ q. not (mixes p q))) t in
      let b = fails-at all (λ q. not (mixes a.0 q)) a.2 in
      (a.0, b.0, a.1, b.1, not-not (mixes a.0 b.0) b.2)

  pub unmixed-sound : T (unmixed R all) → Mixed R all → ⊥
  unmixed-sound t m =
      let p = m.accepting-state in
      let q = m.rejecting-state in
      let a = m.accepts in
      let n = m.rejects in
      let there = walks-all p m.there in
      let back = walks-all q m.back in
      none-mixes t p q (walk_from m.there) (walk-to m.there) (search and_both)

  -- where the test says no, there is such a pair of states
  pub mixed-found : T (not (unmixed R all)) → Mixed R all
  mixed-found t =
      let r = some-mix t in
      let m = r.4 in
      record {
        accepting-state = r.0;
        rejecting-state = r.1;
        accepts = search (and_left, m);
        rejects = search (and_left, and_right, m);
        there = walks-only r.0 r.2 r.1 (search (and_left, and_right, m));
        back = walks-only r.1 r.3 r.0 (search (and_right, m));
      }

  -- question 14's test says yes exactly where there is no such pair of walks
  pub unmixed-exactly : T (unmixed R all) ↔ (Mixed R all → ⊥)
  unmixed-exactly = (unmixed-sound, λ none. surely (unmixed R all) (λ t. none (mixed-found t)))
