-- Trimming, round after round: nothing is gone at the end, so that what is left is the largest lasting set.
use mathlib.Core.Path.{◌≡◌}
use mathlib.Core.Logic.{⊎_elim}
use Prim.Native.Nat.{ℕ, ◌+◌, ◌<◌}
use native.Mathlib.Omega.{arith}
use mathlib.Core.List.{List}
use mathlib.Core.Bool.{Bool, true, false, true≢false}
use borrow.Author.Count.{below_more}
use lib.Dec.{T}
use Rattle.truth.specs.inner.Rows.{rows_has}
use Rattle.truth.specs.inner.Pairs.{UpTo, Transposed, NoRow, NoRows, Greatest, weight}
use Rattle.truth.specs.inner.Trimmed.{Trimmed, Started}
use Rattle.truth.proofs.PairWeights.{weight-less}
use Rattle.truth.proofs.trimming.TrimMoves.{shrunk-more}
use Rattle.truth.proofs.trimming.TrimStart.{started-upto, started-upto-gone, started-largest, started-owing}
use Rattle.truth.proofs.trimming.TrimGone.{trimmed-idle}

-- ---- trimming after trimming
module _ {allow next back : List ℕ} {t : ℕ} {xs gone xs' gone' xs'' gone'' : List ℕ} {b r : Bool} (g : Trimmed allow next back t xs gone xs' gone' b)
    (k : Trimmed allow next back t xs' gone' xs'' gone'' r) where
  pub trimmed-upto : (n : ℕ) → UpTo n t xs → UpTo n t xs'
  trimmed-upto n u p s l x = u p s l (g.shrunk.fewer p s x)

  pub trimmed-upto-gone : (n : ℕ) → UpTo n t xs → UpTo n t gone → UpTo n t gone'
  trimmed-upto-gone n u v p s l x = ⊎_elim (v p s l) (λ w. u p s l w.0) (g.shrunk.gains p s x)

  pub trimmed-more : (c : Bool) → (c ≡ true → weight t (rows_has xs'') (rows_has gone'') < weight t (rows_has xs) (rows_has gone))
      → (c ≡ false → (p s : ℕ) → T (rows_has gone'' p s) → T (rows_has gone p s)) → Trimmed allow next back t xs gone xs'' gone'' c
  trimmed-more c less still = record {
    shrunk = shrunk-more g.shrunk k.shrunk;
    owing = λ n tr u v o. k.owing n tr (trimmed-upto n u) (trimmed-upto-gone n u v) (g.owing n tr u v o);
    less = less;
    still = still;
  }

  pub trimmed-yes : r ≡ true → Trimmed allow next back t xs gone xs'' gone'' true
  trimmed-yes e =
      let less = weight-less t (rows_has xs) (rows_has gone) (rows_has xs') (rows_has gone') g.shrunk.fewer g.shrunk.gains in
      trimmed-more true (λ y. omega (arith, k.less e, less)) (λ y. absurd (true≢false y))

  pub trimmed-no : r ≡ false → Trimmed allow next back t xs gone xs'' gone'' b
  trimmed-no e =
      let less = weight-less t (rows_has xs') (rows_has gone') (rows_has xs'') (rows_has gone'') k.shrunk.fewer k.shrunk.gains in
      trimmed-more _ (λ y. omega (arith, g.less y, less)) (λ y p s x. g.still y p s (k.still e p s x))

-- ---- a round: rows of what is gone below k are empty if nothing was done
pub record Round (allow next back : List ℕ) (t k : ℕ) (xs gone xs' gone' : List ℕ) (r : Bool) : Type 0 where
  pub trimmed : Trimmed allow next back t xs gone xs' gone' r
  pub none : r ≡ false → NoRows k gone'

module _ {allow next back : List ℕ} {t : ℕ} {xs gone : List ℕ} where
  pub round-none : Round allow next back t 0 xs gone xs gone false
  round-none = record { trimmed = trimmed-idle; none = λ e p l. absurd (omega arith) }

  module _ {k : ℕ} {xs' gone' xs'' gone'' : List ℕ} {b r : Bool} (g : Round allow next back t k xs gone xs' gone' b) (h : Trimmed allow next back t xs' gone' xs'' gone'' r)
      (n : r ≡ false → NoRow gone'' k) where
    pub round-yes : r ≡ true → Round allow next back t (k + 1) xs gone xs'' gone'' true
    round-yes e = record { trimmed = trimmed-yes g.trimmed h e; none = λ y. absurd (true≢false y) }

    pub round-no : r ≡ false → Round allow next back t (k + 1) xs gone xs'' gone'' b
    round-no e = record {
      trimmed = trimmed-no g.trimmed h e;
      none = λ y. below_more (NoRow gone'') k (λ p l s x. g.none y p l s (h.still e p s x)) (n e);
    }

-- ---- the end
pub greatest : {allow next back : List ℕ} {t : ℕ} {start xs gone xs' gone' : List ℕ} {b : Bool} → Started allow back t t start xs gone
    → Trimmed allow next back t xs gone xs' gone' b → NoRows t gone' → (n : ℕ) → Transposed n next back → UpTo n t start
    → Greatest allow next t start xs'
greatest {next = next} g k none n tr up = record {
  fewer = λ p s l x. g.fewer p s (k.shrunk.fewer p s x);
  largest = λ W l i. k.shrunk.largest W l (started-largest g next n tr up W l i);
  lasts = λ p s l x.
      let r = k.owing n tr (started-upto g next n tr up) (started-upto-gone g next n tr up)
      (started-owing g next n tr up) p s l x in
      (r.0, r.1, r.2, ⊎_elim (λ y. y) (λ y. absurd (none r.0 r.2.below r.1 y)) r.3);
}
