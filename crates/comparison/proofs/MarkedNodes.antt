-- The marks of blocks.
use mathlib.Core.Path.{sym, subst, ◌∙◌}
use mathlib.Core.Logic.{◌≢◌, by_cases}
use Prim.Native.Nat.{ℕ, ◌+◌, ◌<◌}
use native.Mathlib.Decide.{ℕ_discrete}
use native.Mathlib.Omega.{arith}
use mathlib.Core.List.{List}
use mathlib.Core.Bool.{Bool, not}
use lib.Dec.{T, not_T}
use Rattle.truth.proofs.Passed.{and_left, and_both, dec-test}
use Rattle.comparison.specs.inner.Blocks.{Members}
use Rattle.comparison.specs.inner.Refinement.{Parted}
use Rattle.std.specs.Prelude.{Option}
use Rattle.truth.specs.inner.Marks.{MarkedRow}
use Rattle.comparison.specs.inner.Signatures.{BlockMarks}

pub marked-none : (mem : Members) (mark : List (Option ℕ)) → BlockMarks mem 0 mark
unfolding BlockMarks
marked-none mem mark c s h t = absurd (omega arith)

-- one row more
pub marked_more : (mem : Members) (c : ℕ) (mark mark' : List (Option ℕ)) → BlockMarks mem c mark → MarkedRow (mem c) (c + 1) mark mark'
    → BlockMarks mem (c + 1) mark'
unfolding BlockMarks
marked_more mem c mark mark' m r b s h t =
    by_cases (dec-test (mem c s)) (λ y. (c, omega arith, r.here s y, y))
    (λ n. by_cases (ℕ_discrete b c) (λ q. absurd (n (subst (λ (k : ℕ). T (mem k s)) q t)))
    (λ f.
    let d = m b s (omega arith) t in
    (d.0, omega (arith, d.1), r.others s n ∙ d.2, d.3)))

-- block `count` was parted from block c, and its nodes are marked
pub marked-split : (mem mem' : Members) (count c : ℕ) (x : ℕ → Bool) (mark mark' : List (Option ℕ)) → c < count → Parted count c x mem mem' → BlockMarks mem count mark
    → MarkedRow (mem' count) (count + 1) mark mark' → BlockMarks mem' (count + 1) mark'
unfolding BlockMarks
marked-split mem mem' count c x mark mark' in-range parted m r b s h t =
    by_cases (dec-test (mem' count s)) (λ y. (count, omega arith, r.here s y, y))
    (λ n.
    let f : b ≢ count = λ q. n (subst (λ (k : ℕ). T (mem' k s)) q t) in
    let d = m b s (omega arith) (was b (omega arith) t) in
    (d.0, omega (arith, d.1), r.others s n ∙ d.2, stays n d.0 d.1 d.3))
  where
    was : (b : ℕ) → b < count → T (mem' b s) → T (mem b s)
    was b l t = by_cases (ℕ_discrete b c)
        (λ q. subst (λ (k : ℕ). T (mem k s)) (sym q) (and_left (mem c s) (x s) (subst T (parted.here s) (subst (λ (k : ℕ). T (mem' k s)) q t))))
        (λ f. subst T (parted.others b s l f) t)

    here : (T (mem' count s) → ⊥) → T (mem c s) → T (mem' c s)
    here n t = by_cases (dec-test (x s)) (λ y. subst T (sym (parted.here s)) (and_both (mem c s) (x s) t y))
        (λ y. absurd (n (subst T (sym (parted.added s)) (and_both (mem c s) (not (x s)) t (not_T (x s) y)))))

    stays : (T (mem' count s) → ⊥) → (d : ℕ) → d < count → T (mem d s) → T (mem' d s)
    stays n d l t = by_cases (ℕ_discrete d c)
        (λ q. subst (λ (k : ℕ). T (mem' k s)) (sym q) (here n (subst (λ (k : ℕ). T (mem k s)) q t)))
        (λ f. subst T (sym (parted.others d s l f)) t)
