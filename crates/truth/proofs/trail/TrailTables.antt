-- The list of pairs that a trail makes in three arrays: the nodes and the positions by place, from 1, and the places by pair, 128 a position.
use mathlib.Core.Path.{◌≡◌, ◌∙◌}
use Rattle.std.proofs.Props.{props}
use Rattle.std.proofs.Math.Logic.{∥∥₁_elim}
use mathlib.Core.Logic.{◌⊎◌, inl, inr, by_cases}
use Prim.Native.Nat.{ℕ, suc, ◌+◌, ◌-◌, ◌*◌, ◌≤◌, ◌<◌}
use native.Mathlib.Nat.{mul-le-mul}
use native.Mathlib.Numerals.{add-one}
use native.Mathlib.Omega.{arith}
use native.Mathlib.Decide.{ℕ_discrete}
use mathlib.Core.List.{List}
use lib.Dec.{T}
use lib.ListN.{length, get_or, set, length-set}
use lib.Seq.{get_or-set_same, get_or-set_other}
use Rattle.truth.specs.Sizes.{positions_most, members_most, pairs_most, pair_at}
use Rattle.truth.specs.inner.Rows.{rows_has}
use Rattle.truth.specs.inner.Pairs.{time_of}
use Rattle.truth.specs.inner.Trails.{placed, Looped, Traceable, Advances}
use Rattle.truth.proofs.tables.TableLaws.{time-here, time-other}
use Rattle.truth.proofs.trail.TrailTurns.{in-places}
use Rattle.truth.proofs.trail.TrailPairs.{Listed, room, next-places}
use Rattle.truth.proofs.trail.TrailLoops.{Further, listed_more, closed}

-- ---- facts of which it is known that they hold, and no more
module _ {P R : Type 0} (one : IsProp R) where
  pub told : ∥ P ∥₁ → (P → R) → R
  told t = ∥∥₁_elim t one

  pub both_told : {Q : Type 0} → ∥ P ∥₁ → ∥ Q ∥₁ → (P → Q → R) → R
  both_told t u f = told t (λ p. ∥∥₁_elim u one (f p))

pub looped_prop : {allow next : List ℕ} {t n : ℕ} {xs : List ℕ} {s : ℕ} {node position : ℕ → ℕ} {len : ℕ} (back : ℕ) → IsProp (Looped allow next t n xs s node position len back)
looped_prop back = Prim.hlevel props

-- ---- a store by place
module _ (xs : List ℕ) (len x : ℕ) (l : len < length xs) where
  placed-here : placed (set xs len x) (suc len) ≡ x
  placed-here = let e : suc len - 1 ≡ len = omega arith in rw e (get_or-set_same xs len x 0 l)

  placed-other : (i : ℕ) → 1 ≤ i → i ≤ len → placed (set xs len x) i ≡ placed xs i
  placed-other i a b = get_or-set_other xs len (i - 1) x 0 (λ e. omega arith)

pub further : (nodes positions places : List ℕ) (len q v : ℕ) → len < length nodes → len < length positions → 1 ≤ v → v ≤ members_most
    → pair_at q v < length places
    → Further (placed nodes) (placed positions) (time_of places) len q v (placed (set nodes len v)) (placed (set positions len q)) (time_of (set places (pair_at q v) (suc len)))
further nodes positions places len q v a b lo hi l = record {
  node-here = placed-here nodes len v a;
  position_here = placed-here positions len q b;
  place_here = time-here places q v (suc len) l;
  node-other = placed-other nodes len v a;
  position-other = placed-other positions len q b;
  place_other = time-other places q v (suc len) lo hi;
}

-- the arrays of a trail whose last pair is (p, u)
pub record Listing (allow next : List ℕ) (t : ℕ) (xs ys times : List ℕ) (s : ℕ) (nodes positions places : List ℕ) (len p u : ℕ) : Type 0 where
  pub nodes-size : length nodes ≡ pairs_most
  pub positions-size : length positions ≡ pairs_most
  pub places-size : length places ≡ pairs_most
  pub list : Listed allow next t xs ys times s (placed nodes) (placed positions) (time_of places) len
  pub last-node : placed nodes len ≡ u
  pub last-position : placed positions len ≡ p

module _ {allow next : List ℕ} {t n : ℕ} {xs ys times : List ℕ} {s : ℕ} (w : Traceable allow next t n xs ys times s) where
  pub start-range : (1 ≤ s) × (s ≤ members_most)
  start-range = let r = in-places w 0 s w.some w.found in (r.1, r.2)

  -- the first pair alone
  pub listing-first : (none : List ℕ) → length none ≡ pairs_most → ((i : ℕ) → get_or none i 0 ≡ 0)
      → Listing allow next t xs ys times s (set none 0 s) none (set none (s - 1) 1) 1 0 s
  listing-first none long clear = record {
    nodes-size = length-set none 0 s ∙ long;
    positions-size = long;
    places-size = length-set none (s - 1) 1 ∙ long;
    list = record {
      some = omega arith;
      starts = node;
      begins = clear 0;
      below = λ i l m. rw (clear (i - 1)) w.some;
      inside = λ i l m. let e : i ≡ 1 = omega arith in rw (e, node, clear 0) w.found;
      steps = λ i l m. absurd (omega arith);
      listed = λ i l m. let e : i ≡ 1 = omega arith in rw (e, node, clear 0) place;
      places = λ q v lo hi.
          by_cases (ℕ_discrete q 0) (λ a. by_cases (ℕ_discrete v s) (same q v a) (λ b. inl (other q v lo hi (λ c d. b d)))) (λ a. inl (other q v lo hi (λ c d. a c)));
      lasting = λ i k l m o x. let e : i ≡ k = omega arith in rw e at x;
      falls = λ i k l m o. absurd (omega arith);
    };
    last-node = node;
    last-position = clear 0;
  }
    where
      node : placed (set none 0 s) 1 ≡ s
      node = get_or-set_same none 0 s 0 (omega arith)

      index : pair_at 0 s ≡ s - 1
      index = omega arith

      place : time_of (set none (s - 1) 1) 0 s ≡ 1
      place = let r = start-range in rw index (rw index at (time-here none 0 s 1 (omega arith)))

      other : (q v : ℕ) → 1 ≤ v → v ≤ members_most → (q ≡ 0 → v ≡ s → ⊥) → time_of (set none (s - 1) 1) q v ≡ 0
      other q v lo hi differ = let r = start-range in rw index at (time-other none 0 s 1 r.0 r.1 q v lo hi differ) ∙ clear (pair_at q v)

      Now : ℕ → ℕ → ℕ → Type 0
      Now q v k = (k ≡ 0) ⊎ ((1 ≤ k) × (k ≤ 1) × (placed none k ≡ q) × (placed (set none 0 s) k ≡ v))

      same : (q v : ℕ) → q ≡ 0 → v ≡ s → Now q v (time_of (set none (s - 1) 1) q v)
      same q v a b = rw (a, b, place) (inr (omega arith, omega arith, clear 0, node))

  module _ {nodes positions places : List ℕ} {len p u : ℕ} (h : Listing allow next t xs ys times s nodes positions places len p u) where
    pub listing-below : p < t
    listing-below = rw h.last-position at (h.list.below len h.list.some (omega arith))

    pub listing-inside : T (rows_has ys p u)
    listing-inside = rw (h.last-position, h.last-node) at (h.list.inside len h.list.some (omega arith))

    most : n * t ≤ pairs_most
    most = omega (arith, mul-le-mul w.nodes w.few)

    module _ {q v : ℕ} (a : Advances allow next t xs ys times p u q v) where
      after : Advances allow next t xs ys times (placed positions len) (placed nodes len) q v
      after = rw (h.last-position, h.last-node) a

      listing-range : (q < positions_most) × (1 ≤ v) × (v ≤ members_most)
      listing-range = next-places w h.list after

      pub listing-closed : (time_of places q v ≡ 0 → ⊥) → Looped allow next t n xs s (placed nodes) (placed positions) len (time_of places q v)
      listing-closed = closed w h.list after

      module _ (new : time_of places q v ≡ 0) where
        pub listing-room : (len < n * t) × (len < pairs_most)
        listing-room = let r = room w h.list after new in (r, omega (arith, r, most))

        pub listing-more : Listing allow next t xs ys times s (set nodes len v) (set positions len q) (set places (pair_at q v) (len + 1)) (len + 1) q v
        listing-more = record {
          nodes-size = length-set nodes len v ∙ h.nodes-size;
          positions-size = length-set positions len q ∙ h.positions-size;
          places-size = length-set places (pair_at q v) (len + 1) ∙ h.places-size;
          list = rw (add-one len) (listed_more w h.list after new
              next-functions);
          last-node = rw (add-one len) next-functions.node-here;
          last-position = rw (add-one len) next-functions.position_here;
        }
          where
            next-functions : Further (placed nodes) (placed positions) (time_of places) len q v (placed (set nodes len v)) (placed (set positions len q)) (time_of (set places (pair_at q v) (suc len)))
            next-functions =
                let r = listing-range in
                let o = listing-room in
                further nodes positions places len q v (omega (arith, h.nodes-size, o.1)) (omega (arith, h.positions-size, o.1)) r.1 r.2 (omega (arith, h.places-size, r))
