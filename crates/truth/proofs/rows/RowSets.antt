-- Rows as sets: the difference of two, and one node taken out.
use mathlib.Core.Path.{◌≡◌}
use mathlib.Core.Logic.{⊎_elim}
use Prim.Native.Nat.{ℕ}
use mathlib.Core.Bool.{Bool, true, not, ◌&&◌, and-false}
use lib.Dec.{T, eqb, eqb→eq}
use Rattle.sheets.specs.Words.{within}
use Rattle.sheets.proofs.Tests.{test, failed}
use Rattle.truth.specs.Sizes.{members_most}
use Rattle.truth.specs.inner.Rows.{held}
use Rattle.truth.proofs.rows.RowLaws.{in_row, held_in}

-- ---- taking nodes out

-- a node of a row is one of 1 to 128
in-range : (a b s : ℕ) → T (held a b s) → within 1 members_most s ≡ true
in-range a b s t = let r = held_in a b s t in in_row s r.0 r.1

pub minus : (a b s : ℕ) (x y : Bool) → y ≡ (within 1 members_most s && not x) → (held a b s && y) ≡ (held a b s && not x)
minus a b s x y e = ⊎_elim (λ t. rw (e, in-range a b s t)) (λ n. rw (failed (held a b s) n)) (test (held a b s))

pub but-one : (a b i s : ℕ) → (held a b i && not (within 1 members_most s && eqb i s)) ≡ (held a b i && not (eqb i s))
but-one a b i s = ⊎_elim here (λ n. rw (failed (held a b i) n)) (test (held a b i))
  where
    here : T (held a b i) → (held a b i && not (within 1 members_most s && eqb i s)) ≡ (held a b i && not (eqb i s))
    here t =
        ⊎_elim (λ e. let same = eqb→eq i s e in rw (← same, in-range a b i t))
        (λ n. rw (failed (eqb i s) n, and-false (within 1 members_most s))) (test (eqb i s))
