-- Needed lines marked, from the last one up: a line's marks, and when all that a marked line refers to is marked.
use mathlib.Core.Path.{◌≡◌, refl, sym, subst, ◌∙◌}
use mathlib.Core.Logic.{◌⊎◌, inl, inr, by_cases}
use Prim.Native.Nat.{ℕ, ◌+◌, ◌≤◌, ◌<◌}
use native.Mathlib.Omega.{arith}
use native.Mathlib.Decide.{ℕ_discrete}
use mathlib.Core.List.{List}
use mathlib.Core.Bool.{Bool, true, false}
use lib.ListN.{length, get_or, set, length-set}
use lib.Seq.{get_or-set_same, get_or-set_other}
use Rattle.comparison.specs.inner.Sizes.{line_places, written_most}
use Rattle.comparison.specs.inner.Lines.{Entry, sig, neg, alt, next, entry, Downward}
use Rattle.comparison.specs.inner.Needed.{marks, EachLine, SomeLine, AllStand, IsMarked, Wanted, Closed}
use Rattle.comparison.proofs.EachLine.{each-also, each-above}

-- ---- marks

pub length-marks : (f : ℕ → ℕ) (l : Entry) (needed : List Bool) → length (marks f l needed) ≡ length needed
unfolding marks
length-marks f (sig i) needed = refl
length-marks f (neg j) needed = length-set needed (f j) true
length-marks f (alt i j) needed = length-set (set needed (f i) true) (f j) true ∙ length-set needed (f i) true
length-marks f (next j) needed = length-set needed (f j) true

-- what is marked stays so
set-grows : (needed : List Bool) (i k : ℕ) → IsMarked needed k → k < length needed → IsMarked (set needed i true) k
set-grows needed i k h b = by_cases (ℕ_discrete k i)
    (λ e. rw e (get_or-set_same needed i true false (omega arith)))
    (λ n. get_or-set_other needed i k true false n ∙ h)

marks-grow : (f : ℕ → ℕ) (l : Entry) (needed : List Bool) (k : ℕ) → IsMarked needed k → k < length needed → IsMarked (marks f l needed) k
unfolding marks
marks-grow f (sig i) needed k h b = h
marks-grow f (neg j) needed k h b = set-grows needed (f j) k h b
marks-grow f (alt i j) needed k h b = set-grows (set needed (f i) true) (f j) k (set-grows needed (f i) k h b) (omega (arith, length-set needed (f i) true))
marks-grow f (next j) needed k h b = set-grows needed (f j) k h b

-- only the references are marked
marks-others : (f : ℕ → ℕ) (l : Entry) (needed : List Bool) (k : ℕ) → EachLine (λ r. f r < k) l → get_or (marks f l needed) k false ≡ get_or needed k false
unfolding marks EachLine
marks-others f (sig i) needed k x = refl
marks-others f (neg j) needed k x = get_or-set_other needed (f j) k true false (λ e. omega arith)
marks-others f (alt i j) needed k x =
    let x₀ = x.0 in
    let x₁ = x.1 in
    get_or-set_other (set needed (f i) true) (f j) k true false (λ e. omega arith) ∙ get_or-set_other needed (f i) k true false (λ e. omega arith)
marks-others f (next j) needed k x = get_or-set_other needed (f j) k true false (λ e. omega arith)

-- and nothing else
set-only : (needed : List Bool) (i k : ℕ) → IsMarked (set needed i true) k → IsMarked needed k ⊎ (i ≡ k)
set-only needed i k h = by_cases (ℕ_discrete k i) (λ e. inr (sym e)) (λ n. inl (rw (get_or-set_other needed i k true false n) at h))

marks-only : (f : ℕ → ℕ) (l : Entry) (needed : List Bool) (k : ℕ) → IsMarked (marks f l needed) k → IsMarked needed k ⊎ SomeLine (λ r. f r ≡ k) l
unfolding marks SomeLine
marks-only f (sig i) needed k h = inl h
marks-only f (neg j) needed k h = set-only needed (f j) k h
marks-only f (alt i j) needed k h = either (set-only (set needed (f i) true) (f j) k h)
  where
    first : IsMarked needed k ⊎ (f i ≡ k) → IsMarked needed k ⊎ ((f i ≡ k) ⊎ (f j ≡ k))
    first (inl x) = inl x
    first (inr x) = inr (inl x)

    either : IsMarked (set needed (f i) true) k ⊎ (f j ≡ k) → IsMarked needed k ⊎ ((f i ≡ k) ⊎ (f j ≡ k))
    either (inl x) = first (set-only needed (f i) k x)
    either (inr x) = inr (inr x)
marks-only f (next j) needed k h = set-only needed (f j) k h

marks-each : (f : ℕ → ℕ) (l : Entry) (needed : List Bool) → EachLine (λ r. f r < length needed) l → EachLine (λ r. IsMarked (marks f l needed) (f r)) l
unfolding marks EachLine
marks-each f (sig i) needed x = tt
marks-each f (neg j) needed x = get_or-set_same needed (f j) true false x
marks-each f (alt i j) needed x =
    let s = length-set needed (f i) true in
    let x₀ = x.0 in
    let x₁ = x.1 in
    (set-grows (set needed (f i) true) (f j) (f i) (get_or-set_same needed (f i) true false x.0) (omega arith), get_or-set_same (set needed (f i) true) (f j) true false (omega arith))
marks-each f (next j) needed x = get_or-set_same needed (f j) true false x

module _ (a : ℕ) (ls : List Entry) (down : Downward a ls) (same : List ℕ) (needed : List Bool) (stands : AllStand ls (length ls) same) (size : length needed ≡ line_places)
    (j : ℕ) (inside : j ≤ length ls) (small : j ≤ written_most) where
  pub closed_none : ((k : ℕ) → get_or needed k false ≡ false) → Closed ls same j j (set needed j true)
  closed_none z = record {
    last = get_or-set_same needed j true false (omega arith);
    each = λ k lo hi. absurd (omega arith);
    only = λ k h. by_cases (ℕ_discrete k j) (λ e. inl e) (λ n. cc (get_or-set_other needed j k true false n, z k));
  }

  -- one line further up
  module _ (i : ℕ) (lo : 1 ≤ i) (hi : i ≤ j) (x : Closed ls same i j needed) where
    pub closed-skipped : get_or needed i false ≡ false → (n : ℕ) → n + 1 ≡ i → Closed ls same n j needed
    closed-skipped z n e = record {
      last = x.last;
      each = λ k l h m. by_cases (ℕ_discrete k i) (λ q. cc) (λ q. x.each k (omega arith) h m);
      only = x.only;
    }

    f : ℕ → ℕ
    f r = get_or same r 0

    below : EachLine (λ r. f r < i) (entry ls i)
    unfolding f
    below =
        let up = each-above a i (entry ls i) (down.refers i lo (omega arith)) in
        each-also (λ r. (1 ≤ r) × (r < i)) (λ r. (1 ≤ r) × (r < i)) (λ r. get_or same r 0 < i)
        (λ r p q. let h = (stands r p.0 (omega arith)).high in omega arith) (entry ls i) up up

    after : List Bool
    after = marks f (entry ls i) needed

    at_least : (k : ℕ) → i ≤ k → EachLine (λ r. f r < k) (entry ls i)
    at_least k h = each-also (λ r. f r < i) (λ r. f r < i) (λ r. f r < k) (λ r p q. omega arith) (entry ls i) below below

    pub closed-line : IsMarked needed i → (n : ℕ) → n + 1 ≡ i → Closed ls same n j (marks (λ r. get_or same r 0) (entry ls i) needed)
    unfolding f after
    closed-line need n e = record {
      last = marks-grow f (entry ls i) needed j x.last (omega arith);
      each = λ k l h m. by_cases (ℕ_discrete k i) (λ q. subst (λ (w : ℕ). EachLine (λ r. IsMarked after (f r)) (entry ls w)) (sym q) here) (λ q. above k (omega arith) h m);
      only = λ k h. sorted k (marks-only f (entry ls i) needed k h);
    }
      where
        wanted : (k : ℕ) → (k ≡ j) ⊎ Wanted ls same j needed k → (k ≡ j) ⊎ Wanted ls same j after k
        wanted k (inl q) = inl q
        wanted k (inr w) =
            let b = w.high in
            inr (record { by = w.by; low = w.low; high = w.high; marked = marks-grow f (entry ls i) needed w.by w.marked (omega arith); refers = w.refers })

        sorted : (k : ℕ) → IsMarked needed k ⊎ SomeLine (λ r. f r ≡ k) (entry ls i) → (k ≡ j) ⊎ Wanted ls same j after k
        sorted k (inl m) = wanted k (x.only k m)
        sorted k (inr w) = inr (record { by = i; low = lo; high = hi; marked = marks-grow f (entry ls i) needed i need (omega arith); refers = w })

        here : EachLine (λ r. IsMarked after (f r)) (entry ls i)
        here = marks-each f (entry ls i) needed (at_least (length needed) (omega arith))

        above : (k : ℕ) → i < k → k ≤ j → IsMarked after k → EachLine (λ r. IsMarked after (f r)) (entry ls k)
        above k l h m =
            let was : IsMarked needed k = rw (marks-others f (entry ls i) needed k (at_least k (omega arith))) at m in
            let up = each-above a k (entry ls k) (down.refers k (omega arith) (omega arith)) in
            each-also (λ r. (1 ≤ r) × (r < k)) (λ r. IsMarked needed (f r)) (λ r. IsMarked after (f r))
            (λ r p q. let b = (stands r p.0 (omega arith)).high in marks-grow f (entry ls i) needed (f r) q (omega arith)) (entry ls k) up (x.each k l h was)
