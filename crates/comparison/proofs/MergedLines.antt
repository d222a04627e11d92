-- Lines made one: the line that stands for the next one is true at the same nodes.
use Rattle.std.specs.Prelude.{Option, Some}
use mathlib.Core.Path.{◌≡◌, sym, subst, ap, ◌∙◌}
use mathlib.Core.Logic.{◌≢◌, by_cases}
use Prim.Native.Nat.{ℕ, ◌+◌, ◌≤◌, ◌<◌}
use native.Mathlib.Omega.{arith}
use native.Mathlib.Decide.{dec_le, ℕ_discrete}
use mathlib.Core.List.{List}
use lib.ListN.{length, get_or, set, length-set}
use lib.Seq.{get_or-set_same, get_or-set_other}
use Rattle.comparison.specs.inner.Sizes.{written_most, line_places}
use Rattle.comparison.specs.inner.Lines.{Entry, neg, alt, next, entry, Refers, Downward}
use Rattle.comparison.specs.inner.Needed.{Same, Opposite, NextOf, Always, Stands, AllStand, NumberOr, had, new, EitherOf, first, second, both, Opposed, Followed, Merged}
use Rattle.comparison.proofs.SameTruths.{both-next, both-opposite, either-always, left_alone, next-of-line, opposite-line, opposite_turned, right-alone, same_refl}

-- ---- tables

pub stands_set : (ls : List Entry) (i v : ℕ) (same : List ℕ) → length same ≡ line_places → i < written_most → AllStand ls i same → 1 ≤ v → v ≤ i + 1 → Same ls (i + 1) ls v
    → AllStand ls (i + 1) (set same (i + 1) v)
stands_set ls i v same size small x lv hv e k lo hi = by_cases (dec_le k i) above here
  where
    above : k ≤ i → Stands ls (set same (i + 1) v) k
    above h =
        let q : get_or (set same (i + 1) v) k 0 ≡ get_or same k 0 = get_or-set_other same (i + 1) k v 0 (λ z. omega arith) in
        let st = x k lo h in
        record { low = rw q st.low; high = rw q st.high; true = rw q st.true }

    here : (k ≤ i → ⊥) → Stands ls (set same (i + 1) v) k
    here h =
        let z : k ≡ i + 1 = omega arith in
        let q : get_or (set same (i + 1) v) (i + 1) 0 ≡ v = get_or-set_same same (i + 1) v 0 (omega arith) in
        subst (λ (n : ℕ). Stands ls (set same (i + 1) v) n) (sym z) (record { low = rw q lv; high = rw q hv; true = rw q e })

module _ (a : ℕ) (ls : List Entry) (down : Downward a ls) (i : ℕ) (inside : i + 1 ≤ length ls) (small : i < written_most)
    (same other nexts : List ℕ) (top : Option ℕ) (size : length same ≡ line_places) (size_other : length other ≡ line_places) (size_nexts : length nexts ≡ line_places)
    (m : Merged ls i same other nexts top) where
  opposed-still : (k : ℕ) → 1 ≤ get_or other k 0 → Opposed ls (i + 1) other k
  opposed-still k h = let o = m.opposed k h in let b = o.high in record { low = o.low; high = omega arith; true = o.true }

  followed-still : (k : ℕ) → 1 ≤ get_or nexts k 0 → Followed ls (i + 1) nexts k
  followed-still k h = let o = m.followed k h in let b = o.high in record { high = omega arith; true = o.true }

  -- the line stays as it is
  pub merged-kept : Merged ls (i + 1) (set same (i + 1) (i + 1)) other nexts top
  merged-kept = record {
    stands = stands_set ls i (i + 1) same size small m.stands (omega arith) (omega arith) (same_refl ls (i + 1));
    opposed = opposed-still;
    followed = followed-still;
    always = m.always;
  }

  -- "not line j"
  module _ (j t : ℕ) (e : entry ls (i + 1) ≡ neg j) (at : t ≡ get_or same j 0) where
    above-not : (1 ≤ j) × (j ≤ i)
    unfolding Refers
    above-not =
        let r : Refers a (i + 1) (neg j) = rw e at (down.refers (i + 1) (omega arith) inside) in
        (r.0, omega arith)

    there : Stands ls same j
    there = m.stands j above-not.0 above-not.1

    there-low : 1 ≤ t
    there-low = rw at there.low

    there-high : t ≤ i
    there-high = let h = there.high in let b = above-not.1 in omega arith

    opposed-here : Opposite ls (i + 1) t
    opposed-here = opposite-line a ls down (i + 1) (omega arith) inside j t e (rw at there.true)

    found : (r : ℕ) → 1 ≤ r → r ≡ get_or other t 0 → Merged ls (i + 1) (set same (i + 1) r) other nexts top
    found r lo q =
        let h : 1 ≤ get_or other t 0 = rw q at lo in
        let o = m.opposed t h in
        let b : r ≤ i = rw q o.high in
        record {
          stands = stands_set ls i r same size small m.stands lo (omega arith)
              (both-opposite a ls down (i + 1) t r lo (omega arith) opposed-here (rw q o.true));
          opposed = opposed-still;
          followed = followed-still;
          always = m.always;
        }

    paired : (k : ℕ) → 1 ≤ get_or (set (set other t (i + 1)) (i + 1) t) k 0 → Opposed ls (i + 1) (set (set other t (i + 1)) (i + 1) t) k
    paired k h = by_cases (ℕ_discrete k (i + 1)) here (λ n. by_cases (ℕ_discrete k t) (back n) (still n))
      where
        table : List ℕ
        table = set (set other t (i + 1)) (i + 1) t

        here : k ≡ i + 1 → Opposed ls (i + 1) table k
        here z =
            let q : get_or table (i + 1) 0 ≡ t = get_or-set_same (set other t (i + 1)) (i + 1) t 0 (omega (arith, length-set other t (i + 1))) in
            let b = there-high in
            let v : t ≤ i + 1 = omega arith in
            subst (λ (n : ℕ). Opposed ls (i + 1) table n) (sym z) (record { low = omega arith; high = rw q v; true = rw q opposed-here })

        back : (k ≡ i + 1 → ⊥) → k ≡ t → Opposed ls (i + 1) table k
        back n z =
            let d : t ≡ i + 1 → ⊥ = λ w. n (z ∙ w) in
            let b = there-high in
            let q : get_or table t 0 ≡ i + 1 = get_or-set_other (set other t (i + 1)) (i + 1) t t 0 d ∙ get_or-set_same other t (i + 1) 0 (omega arith) in
            let v : i + 1 ≤ i + 1 = omega arith in
            subst (λ (n : ℕ). Opposed ls (i + 1) table n) (sym z)
            (record { low = there-low; high = rw q v; true = rw q (opposite_turned a ls down (i + 1) t there-low (omega arith) opposed-here) })

        still : (k ≡ i + 1 → ⊥) → (k ≡ t → ⊥) → Opposed ls (i + 1) table k
        still n d =
            let q : get_or table k 0 ≡ get_or other k 0 = get_or-set_other (set other t (i + 1)) (i + 1) k t 0 n ∙ get_or-set_other other t k (i + 1) 0 d in
            let o = opposed-still k (rw q at h) in
            record { low = o.low; high = rw q o.high; true = rw q o.true }

    added : Merged ls (i + 1) (set same (i + 1) (i + 1)) (set (set other t (i + 1)) (i + 1) t) nexts top
    added = record { stands = merged-kept.stands; opposed = paired; followed = followed-still; always = m.always }

    pub merged-not : (r : ℕ) (other' : List ℕ)
        → NumberOr t (i + 1) (set (set other t (i + 1)) (i + 1) t) other other' r
        → Merged ls (i + 1) (set same (i + 1) r) other' nexts top
    merged-not r other' (had low e kept) = rw kept (found r low e)
    merged-not r other' (new none e put) = rw (e, put) added

  -- "some next node has line j"
  module _ (j t : ℕ) (e : entry ls (i + 1) ≡ next j) (at : t ≡ get_or same j 0) where
    above-next : (1 ≤ j) × (j ≤ i)
    unfolding Refers
    above-next =
        let r : Refers a (i + 1) (next j) = rw e at (down.refers (i + 1) (omega arith) inside) in
        (r.0, omega arith)

    leads : Stands ls same j
    leads = m.stands j above-next.0 above-next.1

    leads-high : t ≤ i
    leads-high = let h = leads.high in let b = above-next.1 in omega arith

    next_here : NextOf ls (i + 1) t
    next_here = next-of-line a ls down (i + 1) (omega arith) inside j t e (rw at leads.true)

    said : (r : ℕ) → 1 ≤ r → r ≡ get_or nexts t 0 → Merged ls (i + 1) (set same (i + 1) r) other nexts top
    said r lo q =
        let o = m.followed t (rw q at lo) in
        let b : r ≤ i = rw q o.high in
        record {
          stands = stands_set ls i r same size small m.stands lo (omega arith) (both-next ls (i + 1) r t next_here (rw q o.true));
          opposed = opposed-still;
          followed = followed-still;
          always = m.always;
        }

    followed-more : (k : ℕ) → 1 ≤ get_or (set nexts t (i + 1)) k 0 → Followed ls (i + 1) (set nexts t (i + 1)) k
    followed-more k h = by_cases (ℕ_discrete k t) here other-one
      where
        table : List ℕ
        table = set nexts t (i + 1)

        here : k ≡ t → Followed ls (i + 1) table k
        here z =
            let b = leads-high in
            let q : get_or table t 0 ≡ i + 1 = get_or-set_same nexts t (i + 1) 0 (omega arith) in
            let v : i + 1 ≤ i + 1 = omega arith in
            subst (λ (n : ℕ). Followed ls (i + 1) table n) (sym z) (record { high = rw q v; true = rw q next_here })

        other-one : (k ≡ t → ⊥) → Followed ls (i + 1) table k
        other-one d =
            let q : get_or table k 0 ≡ get_or nexts k 0 = get_or-set_other nexts t k (i + 1) 0 d in
            let o = followed-still k (rw q at h) in
            record { high = rw q o.high; true = rw q o.true }

    first_said : Merged ls (i + 1) (set same (i + 1) (i + 1)) other (set nexts t (i + 1)) top
    first_said = record { stands = merged-kept.stands; opposed = opposed-still; followed = followed-more; always = m.always }

    pub merged-next : (r : ℕ) (nexts' : List ℕ) → NumberOr t (i + 1) (set nexts t (i + 1)) nexts nexts' r
        → Merged ls (i + 1) (set same (i + 1) r) other nexts' top
    merged-next r nexts' (had low e kept) = rw kept (said r low e)
    merged-next r nexts' (new none e put) = rw (e, put) first_said

  -- "line j or line k"
  module _ (j k x y : ℕ) (e : entry ls (i + 1) ≡ alt j k) (atx : x ≡ get_or same j 0) (aty : y ≡ get_or same k 0) where
    above-or : ((1 ≤ j) × (j ≤ i)) × ((1 ≤ k) × (k ≤ i))
    unfolding Refers
    above-or =
        let r : Refers a (i + 1) (alt j k) = rw e at (down.refers (i + 1) (omega arith) inside) in
        ((r.0.0, omega arith), (r.1.0, omega arith))

    left : Stands ls same j
    left = m.stands j above-or.0.0 above-or.0.1

    right : Stands ls same k
    right = m.stands k above-or.1.0 above-or.1.1

    x-low : 1 ≤ x
    x-low = rw atx left.low

    y-low : 1 ≤ y
    y-low = rw aty right.low

    x-high : x ≤ i
    x-high = let h = left.high in let b = above-or.0.1 in omega arith

    y-high : y ≤ i
    y-high = let h = right.high in let b = above-or.1.1 in omega arith

    x-true : Same ls j ls x
    x-true = rw atx left.true

    y-true : Same ls k ls y
    y-true = rw aty right.true

    stood : (r : ℕ) → EitherOf other top x y (i + 1) r → AllStand ls (i + 1) (set same (i + 1) r)
    stood r (second t e' p q) =
        let h : 1 ≤ get_or other t 0 = rw p at x-low in
        let o = m.opposed t h in
        let b = y-high in
        rw q
        (stands_set ls i y same size small m.stands y-low (omega arith)
        (right-alone a ls down (i + 1) (omega arith) inside j k x y e x-true y-true t (m.always t e') (rw p o.true)))
    stood r (first t e' p q) =
        let h : 1 ≤ get_or other t 0 = rw p at y-low in
        let o = m.opposed t h in
        let b = x-high in
        rw q
        (stands_set ls i x same size small m.stands x-low (omega arith)
        (left_alone a ls down (i + 1) (omega arith) inside j k x y e x-true y-true t (m.always t e') (rw p o.true)))
    stood r (both q) = rw q merged-kept.stands

    always-now : (u : Option ℕ) → (get_or other x 0 ≡ y → u ≡ Some (i + 1)) → (get_or other x 0 ≢ y → u ≡ top) → (t : ℕ) → u ≡ Some t → Always ls t
    always-now u found kept t h = by_cases (ℕ_discrete (get_or other x 0) y)
        (λ p.
        let l : 1 ≤ get_or other x 0 = rw p y-low in
        let o = m.opposed x l in
        let b = y-high in
        let q : t ≡ i + 1 = cc (found p) in
        rw q (either-always a ls down (i + 1) (omega arith) inside j k x y e x-true y-true y-low (omega arith) (rw p at o.true)))
        (λ n. m.always t (sym (kept n) ∙ h))

    pub merged-or : (r : ℕ) (u : Option ℕ) → EitherOf other top x y (i + 1) r → (get_or other x 0 ≡ y → u ≡ Some (i + 1)) → (get_or other x 0 ≢ y → u ≡ top)
        → Merged ls (i + 1) (set same (i + 1) r) other nexts u
    merged-or r u p found kept = record { stands = stood r p; opposed = opposed-still; followed = followed-still; always = always-now u found kept }

-- ---- the next line, i, below n lines

module _ (a : ℕ) (ls : List Entry) (down : Downward a ls) (n i : ℕ) (e : i ≡ n + 1) (inside : i ≤ length ls) (small : i ≤ written_most)
    (same other nexts same' : List ℕ) (top : Option ℕ) (size : length same ≡ line_places) (size_other : length other ≡ line_places) (size_nexts : length nexts ≡ line_places)
    (m : Merged ls n same other nexts top) where
  pub next-kept : same' ≡ set same i i → Merged ls i same' other nexts top
  next-kept s = rw (s, e) (merged-kept a ls down n (omega arith) (omega arith) same other nexts top size size_other size_nexts m)

  pub next-not : (j t r : ℕ) (other' : List ℕ) → entry ls i ≡ neg j → t ≡ get_or same j 0
      → NumberOr t i (set (set other t i) i t) other other' r → same' ≡ set same i r → Merged ls i same' other' nexts top
  next-not j t r other' h at x s =
      rw (s, e)
      (merged-not a ls down n (omega arith) (omega arith) same other nexts top size size_other size_nexts m j t (rw e at h) at r other'
      (rw e at x))

  pub next-next : (j t r : ℕ) (nexts' : List ℕ) → entry ls i ≡ next j → t ≡ get_or same j 0
      → NumberOr t i (set nexts t i) nexts nexts' r → same' ≡ set same i r → Merged ls i same' other nexts' top
  next-next j t r nexts' h at x s =
      rw (s, e)
      (merged-next a ls down n (omega arith) (omega arith) same other nexts top size size_other size_nexts m j t (rw e at h) at r nexts'
      (rw e at x))

  pub next-or : (j k x y r : ℕ) (u : Option ℕ) → entry ls i ≡ alt j k → x ≡ get_or same j 0 → y ≡ get_or same k 0 → EitherOf other top x y i r
      → (get_or other x 0 ≡ y → u ≡ Some i) → (get_or other x 0 ≢ y → u ≡ top) → same' ≡ set same i r → Merged ls i same' other nexts u
  next-or j k x y r u h atx aty p found kept s =
      rw (s, e)
      (merged-or a ls down n (omega arith) (omega arith) same other nexts top size size_other size_nexts m j k x y (rw e at h) atx aty r u
      (rw e at p) (λ q. found q ∙ ap Some e) kept)
