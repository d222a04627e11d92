-- The list of pairs that a trail makes, after one pair more, and the loop that a pair closes that is listed already.
use mathlib.Core.Path.{◌≡◌, refl, sym, ◌∙◌}
use mathlib.Core.Logic.{◌⊎◌, inr, ⊎_elim, ⊎_map, by_cases}
use Prim.Native.Nat.{ℕ, suc, ◌≤◌, ◌<◌}
use native.Mathlib.Omega.{arith}
use native.Mathlib.Decide.{ℕ_discrete}
use mathlib.Core.List.{List}
use mathlib.Core.Bool.{not}
use lib.Dec.{T}
use Rattle.sheets.proofs.Tests.{contrary, surely}
use Rattle.sheets.proofs.Search.{le-or-gt}
use Rattle.truth.specs.Sizes.{members_most}
use Rattle.truth.specs.inner.Rows.{rows_has}
use Rattle.truth.specs.inner.Pairs.{PairStep, time_of}
use Rattle.truth.specs.inner.Trails.{Looped, Traceable, Advances}
use Rattle.truth.proofs.trail.TrailPairs.{Listed, once, range, fits, next-places, apart}

-- the functions of the list after the pair (q, v) is listed at the place after `len`
pub record Further (node position : ℕ → ℕ) (place : ℕ → ℕ → ℕ) (len q v : ℕ) (node' position' : ℕ → ℕ) (place' : ℕ → ℕ → ℕ) : Type 0 where
  pub node-here : node' (suc len) ≡ v
  pub position_here : position' (suc len) ≡ q
  pub place_here : place' q v ≡ suc len
  pub node-other : (i : ℕ) → 1 ≤ i → i ≤ len → node' i ≡ node i
  pub position-other : (i : ℕ) → 1 ≤ i → i ≤ len → position' i ≡ position i
  pub place_other : (p u : ℕ) → 1 ≤ u → u ≤ members_most → (p ≡ q → u ≡ v → ⊥) → place' p u ≡ place p u

module _ {allow next : List ℕ} {t n : ℕ} {xs ys times : List ℕ} {s : ℕ} (w : Traceable allow next t n xs ys times s)
    {node position : ℕ → ℕ} {place : ℕ → ℕ → ℕ} {len : ℕ} (h : Listed allow next t xs ys times s node position place len)
    {q v : ℕ} (g : Advances allow next t xs ys times (position len) (node len) q v) where
  -- a pair that is not listed
  module _ (new : place q v ≡ 0) {node' position' : ℕ → ℕ} {place' : ℕ → ℕ → ℕ} (f : Further node position place len q v node' position' place') where
    -- what holds of each pair of the list before and of the new one
    each : (P : ℕ → ℕ → ℕ → Type 0) → ((i : ℕ) → 1 ≤ i → i ≤ len → P i (position i) (node i)) → P (suc len) q v
        → (i : ℕ) → 1 ≤ i → i ≤ suc len → P i (position' i) (node' i)
    each P old here i l m = ⊎_elim before last (le-or-gt i len)
      where
        before : i ≤ len → P i (position' i) (node' i)
        before o = rw (f.position-other i l o, f.node-other i l o) (old i l o)

        last : len < i → P i (position' i) (node' i)
        last o = let e : i ≡ suc len = omega arith in rw (e, f.position_here, f.node-here) here

    last-in : (i : ℕ) → 1 ≤ i → i ≤ len → T (rows_has xs (position i) (node i)) → T (rows_has xs q v)
    last-in i l m x = g.lasting (h.lasting i len l m (omega arith) x)

    last-falls : (i : ℕ) → 1 ≤ i → i ≤ len → T (not (rows_has xs q v)) → time_of times q v < time_of times (position i) (node i)
    last-falls i l m x =
        let out = contrary (rows_has xs (position len) (node len)) (rows_has xs q v) g.lasting x in
        let less = g.falls out in
        ⊎_elim (λ o. let e : i ≡ len = omega arith in rw e less) (λ o. omega (arith, less, h.falls i len l o (omega arith) out)) (le-or-gt len i)

    place-now : (p u : ℕ) → 1 ≤ u → u ≤ members_most → (place' p u ≡ 0) ⊎ ((1 ≤ place' p u) × (place' p u ≤ suc len) × (position' (place' p u) ≡ p) × (node' (place' p u) ≡ u))
    place-now p u lo hi = by_cases (ℕ_discrete p q) (λ a. by_cases (ℕ_discrete u v) (same a) (λ b. other (λ c d. b d))) (λ a. other (λ c d. a c))
      where
        Now : ℕ → Type 0
        Now k = (k ≡ 0) ⊎ ((1 ≤ k) × (k ≤ suc len) × (position' k ≡ p) × (node' k ≡ u))

        same : p ≡ q → u ≡ v → Now (place' p u)
        same a b = rw (a, b, f.place_here) (inr (omega arith, omega arith, f.position_here, f.node-here))

        other : (p ≡ q → u ≡ v → ⊥) → Now (place' p u)
        other differ =
            rw (f.place_other p u lo hi differ)
            (⊎_map (λ e. e) (λ r. (r.0, omega arith, f.position-other _ r.0 r.1 ∙ r.2, f.node-other _ r.0 r.1 ∙ r.3)) (h.places p u lo hi))

    place-before : (i : ℕ) → 1 ≤ i → i ≤ len → place' (position i) (node i) ≡ place (position i) (node i)
    place-before i l m =
        let r = range w h i l m in
        f.place_other (position i) (node i) r.0 (omega (arith, w.nodes, r.1))
        (λ a b. apart w h g new i l m (sym a) (sym b))

    at_last : (i : ℕ) → i ≡ suc len → T (rows_has xs (position' i) (node' i)) → T (rows_has xs q v)
    at_last i e x = rw (e, f.position_here, f.node-here) at x

    pub listed_more : Listed allow next t xs ys times s node' position' place' (suc len)
    listed_more = record {
      some = omega arith;
      starts = f.node-other 1 (omega arith) h.some ∙ h.starts;
      begins = f.position-other 1 (omega arith) h.some ∙ h.begins;
      below = each (λ i p u. p < t) h.below g.steps.below;
      inside = each (λ i p u. T (rows_has ys p u)) h.inside g.inside;
      steps = λ i l m. rw (f.position-other i l (omega arith), f.node-other i l (omega arith))
          (each (λ k p u. k ≡ suc i → PairStep allow next t (position i) (node i) p u) (λ k a b e. rw e (h.steps i l (omega arith)))
          (λ e. let d : i ≡ len = omega arith in rw d g.steps) (suc i) (omega arith) m refl);
      listed = each (λ i p u. place' p u ≡ i) (λ i l m. place-before i l m ∙ h.listed i l m) f.place_here;
      places = place-now;
      lasting = λ i k l m o. each (λ k p u. i ≤ k → T (rows_has xs (position' i) (node' i)) → T (rows_has xs p u))
          (λ k a b c x. h.lasting i k l c b (rw (f.position-other i l (omega arith), f.node-other i l (omega arith)) at x))
          (λ c x. ⊎_elim (λ b. last-in i l b (rw (f.position-other i l b, f.node-other i l b) at x)) (λ b. at_last i (omega arith) x) (le-or-gt i len)) k (omega arith) o m;
      falls = λ i k l m o. rw (f.position-other i l (omega arith), f.node-other i l (omega arith))
          (each (λ k p u. i < k → T (not (rows_has xs p u)) → time_of times p u < time_of times (position i) (node i))
          (λ k a b c. h.falls i k l c b) (λ c. last-falls i l (omega arith)) k (omega arith) o m);
    }

  -- a pair that is listed closes a loop
  module _ (old : place q v ≡ 0 → ⊥) where
    Back : Type 0
    Back = (1 ≤ place q v) × (place q v ≤ len) × (position (place q v) ≡ q) × (node (place q v) ≡ v)

    back : Back
    unfolding Back
    back = let r = next-places w h g in ⊎_elim (λ e. absurd (old e)) (λ b. b) (h.places q v r.1 r.2)

    -- the last pair is in `xs`: otherwise the pair after it has an earlier time than all that are listed
    later : T (not (rows_has xs (position len) (node len))) → ⊥
    unfolding Back
    later out =
        let less = g.falls out in
        let same : time_of times (position (place q v)) (node (place q v)) ≡ time_of times q v = rw (back.2, back.3) in
        ⊎_elim (λ o. omega (arith, less, same, here (omega (arith, back.1))))
        (λ o. omega (arith, less, same, h.falls (place q v) len back.0 o (omega arith) out)) (le-or-gt len (place q v))
      where
        here : place q v ≡ len → time_of times (position (place q v)) (node (place q v)) ≡ time_of times (position len) (node len)
        here e = rw e

    pub closed : Looped allow next t n xs s node position len (place q v)
    unfolding Back
    closed = record {
      back_from = back.0;
      back_to = back.1;
      starts = h.starts;
      begins = h.begins;
      steps = h.steps;
      steps_back = rw (back.2, back.3) g.steps;
      below = h.below;
      lasting = λ i l m. h.lasting (place q v) i back.0 l m
          (rw (back.2, back.3) (g.lasting (surely (rows_has xs (position len) (node len)) later)));
      once = once w h;
      fits = fits w h;
    }
