-- The list of pairs that a trail makes, by the functions of the pair at a place and of the place of a pair: no pair is there twice, so at
-- most n t fit.
use mathlib.Core.Path.{◌≡◌}
use mathlib.Core.Logic.{◌⊎◌, ⊎_elim}
use Prim.Native.Nat.{ℕ, zero, suc, ◌-◌, ◌*◌, ◌≤◌, ◌<◌}
use native.Mathlib.Nat.{mul_comm}
use native.Mathlib.Omega.{arith}
use mathlib.Core.List.{List}
use mathlib.Core.Bool.{not}
use lib.Dec.{T}
use Rattle.sheets.proofs.Search.{le-or-gt}
use Rattle.sheets.proofs.Pigeonhole.{pigeonhole, pair, pair-below, pair-first, pair-second}
use Rattle.truth.specs.Sizes.{positions_most, members_most}
use Rattle.truth.specs.inner.Rows.{rows_has}
use Rattle.truth.specs.inner.Pairs.{PairStep, time_of}
use Rattle.truth.specs.inner.Trails.{Traceable, Advances}
use Rattle.truth.proofs.trail.TrailTurns.{in-range, in-places}

-- Places 1 to `len` of a trail from (0, s), and `place`, which has the place of each pair that is listed, and 0 for another: after a pair
-- of `xs` all are of `xs`, and a pair that is not has an earlier time than all before it.
pub record Listed (allow next : List ℕ) (t : ℕ) (xs ys times : List ℕ) (s : ℕ) (node position : ℕ → ℕ) (place : ℕ → ℕ → ℕ) (len : ℕ) : Type 0 where
  pub some : 1 ≤ len
  pub starts : node 1 ≡ s
  pub begins : position 1 ≡ 0
  pub below : (i : ℕ) → 1 ≤ i → i ≤ len → position i < t
  pub inside : (i : ℕ) → 1 ≤ i → i ≤ len → T (rows_has ys (position i) (node i))
  pub steps : (i : ℕ) → 1 ≤ i → i < len → PairStep allow next t (position i) (node i) (position (suc i)) (node (suc i))
  pub listed : (i : ℕ) → 1 ≤ i → i ≤ len → place (position i) (node i) ≡ i
  pub places : (q v : ℕ) → 1 ≤ v → v ≤ members_most → (place q v ≡ 0) ⊎ ((1 ≤ place q v) × (place q v ≤ len) × (position (place q v) ≡ q) × (node (place q v) ≡ v))
  pub lasting : (i k : ℕ) → 1 ≤ i → i ≤ k → k ≤ len → T (rows_has xs (position i) (node i)) → T (rows_has xs (position k) (node k))
  pub falls : (i k : ℕ) → 1 ≤ i → i < k → k ≤ len → T (not (rows_has xs (position k) (node k)))
      → time_of times (position k) (node k) < time_of times (position i) (node i)

-- pairs, none twice, of a position below t and a node of 1 to n: there are at most n t
few : (t n : ℕ) (node position : ℕ → ℕ) (len : ℕ) → ((i : ℕ) → i < len → position i < t) → ((i : ℕ) → i < len → (1 ≤ node i) × (node i ≤ n))
    → ((i k : ℕ) → i < k → k < len → node i ≡ node k → position i ≡ position k → ⊥) → len ≤ n * t
few t n node position len below range once = ⊎_elim (λ h. h) (λ h. absurd (twice h)) (le-or-gt len (n * t))
  where
    number : ℕ → ℕ
    number i = pair (n - 1) (position i) (node i - 1)

    small : n * t < len → (i : ℕ) → i ≤ n * t → number i < n * t
    small h i l =
        let q = below i (omega arith) in
        let r = range i (omega arith) in
        let e : suc (t - 1) ≡ t = omega arith in
        let f : suc (n - 1) ≡ n = omega arith in
        rw (mul_comm n t) (rw (e, f) at (pair-below (t - 1) (n - 1) (position i) (node i - 1) (omega arith) (omega arith)))

    twice : n * t < len → ⊥
    twice h = apart (pigeonhole (n * t) number (small h))
      where
        apart : (i k : ℕ) × (i < k) × (k ≤ n * t) × (number i ≡ number k) → ⊥
        apart (i, k, l, m, e) =
            let a = range i (omega arith) in
            let b = range k (omega arith) in
            let same = pair-second (n - 1) (position i) (node i - 1) (position k) (node k - 1) (omega arith) (omega arith) e in
            once i k l (omega arith) (omega (arith, a, b, same)) (pair-first (n - 1) (position i) (node i - 1) (position k) (node k - 1) (omega arith) (omega arith) e)

-- a number before those of a function from 1 on
front : ℕ → (ℕ → ℕ) → ℕ → ℕ
front x f zero = x
front x f (suc i) = f (suc i)

module _ {allow next : List ℕ} {t n : ℕ} {xs ys times : List ℕ} {s : ℕ} (w : Traceable allow next t n xs ys times s)
    {node position : ℕ → ℕ} {place : ℕ → ℕ → ℕ} {len : ℕ} (h : Listed allow next t xs ys times s node position place len) where
  pub once : (i k : ℕ) → 1 ≤ i → i < k → k ≤ len → node i ≡ node k → position i ≡ position k → ⊥
  once i k l m o a b =
      let e : place (position i) (node i) ≡ place (position k) (node k) = rw (a, b) in
      omega (arith, e, h.listed i l (omega arith), h.listed k (omega arith) o)

  pub range : (i : ℕ) → 1 ≤ i → i ≤ len → (1 ≤ node i) × (node i ≤ n)
  range i l m = in-range w (position i) (node i) (h.below i l m) (h.inside i l m)

  pub fits : len ≤ n * t
  fits =
      few t n (λ i. node (suc i)) (λ i. position (suc i)) len (λ i l. h.below (suc i) (omega arith) l) (λ i l. range (suc i) (omega arith) l)
      (λ i k l m. once (suc i) (suc k) (omega arith) (omega arith) m)

  -- the pair after the last
  module _ {q v : ℕ} (g : Advances allow next t xs ys times (position len) (node len) q v) where
    next-range : (1 ≤ v) × (v ≤ n)
    next-range = in-range w q v g.steps.below g.inside

    pub next-places : (q < positions_most) × (1 ≤ v) × (v ≤ members_most)
    next-places = in-places w q v g.steps.below g.inside

    -- it is not listed
    module _ (new : place q v ≡ 0) where
      pub apart : (i : ℕ) → 1 ≤ i → i ≤ len → q ≡ position i → v ≡ node i → ⊥
      apart i l m a b =
          let e : place q v ≡ place (position i) (node i) = rw (a, b) in
          omega (arith, e, h.listed i l m)

      pub room : len < n * t
      unfolding front
      room = few t n (front v node) (front q position) (suc len) below ranges twice
        where
          below : (i : ℕ) → i < suc len → front q position i < t
          below zero l = g.steps.below
          below (suc i) l = h.below (suc i) (omega arith) (omega arith)

          ranges : (i : ℕ) → i < suc len → (1 ≤ front v node i) × (front v node i ≤ n)
          ranges zero l = next-range
          ranges (suc i) l = range (suc i) (omega arith) (omega arith)

          twice : (i k : ℕ) → i < k → k < suc len → front v node i ≡ front v node k → front q position i ≡ front q position k → ⊥
          twice i zero l m a b = omega arith
          twice zero (suc k) l m a b = apart (suc k) (omega arith) (omega arith) b a
          twice (suc i) (suc k) l m a b = once (suc i) (suc k) (omega arith) l (omega arith) a b
