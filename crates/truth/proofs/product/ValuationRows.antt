-- The valuation that lines have at a node: one bit more of it, that only one number below 2 ^ v has its bits, and what the union of
-- the rows of some valuations has there.
use mathlib.Core.Path.{◌≡◌, sym}
use mathlib.Core.Logic.{◌↔◌, ⊎_elim}
use Prim.Native.Nat.{ℕ, zero, suc, ◌+◌, ◌*◌, ◌%◌, ◌^◌, ◌≤◌, ◌<◌}
use native.Mathlib.Numerals.{add-one}
use native.Mathlib.Omega.{arith}
use mathlib.Core.Bool.{Bool, true, false, not, ◌&&◌, and-true, and_assoc}
use lib.Pow.{pow_mono}
use lib.Dec.{T}
use Rattle.sheets.specs.Format.{variables_most, word_bits}
use Rattle.sheets.specs.Words.{bit}
use Rattle.sheets.specs.inner.Positions.{some_below}
use Rattle.sheets.proofs.Tests.{and_left, and_right, and_both}
use Rattle.sheets.proofs.Search.{le-or-gt}
use Rattle.sheets.proofs.Bits.{bits-same}
use Rattle.sheets.proofs.BitLaws.{one_shifted}
use Rattle.sheets.proofs.Positions.{same_tests, some_at, some_in}
use Rattle.truth.specs.Sizes.{valuations_most}
use Rattle.truth.specs.inner.Product.{same, agrees}

-- the numbers of valuations of v variables: `1 << v` of them
pub valuations : (v : ℕ) → v ≤ variables_most → ((1 * 2 ^ v) % 2 ^ word_bits ≡ 2 ^ v) × (2 ^ v ≤ valuations_most)
valuations v h = (one_shifted word_bits v (omega arith), pow_mono h)

-- ---- one bit more

module _ (w : ℕ) (f : ℕ → Bool) (a : Bool) where
  pub agrees-none : a ≡ (a && agrees 0 w f)
  unfolding agrees
  agrees-none = sym (and-true a)

  pub agrees-yes : (i : ℕ) (h : Bool) → h ≡ (a && agrees i w f) → bit w i ≡ true → (h && f i) ≡ (a && agrees (i + 1) w f)
  unfolding agrees same
  agrees-yes i h e t = rw (add-one i, e, t) (and_assoc a (agrees i w f) (f i))

  pub agrees-no : (i : ℕ) (h : Bool) → h ≡ (a && agrees i w f) → bit w i ≡ false → (h && not (f i)) ≡ (a && agrees (i + 1) w f)
  unfolding agrees same
  agrees-no i h e t = rw (add-one i, e, t) (and_assoc a (agrees i w f) (not (f i)))

-- ---- agreeing bits

same-is : (a b : Bool) → T (same a b) ↔ (T a ↔ T b)
unfolding same
same-is true b = (λ t. (λ u. t, λ u. tt), λ e. e.0 tt)
same-is false true = (λ t. absurd t, λ e. e.1 tt)
same-is false false = (λ t. (λ u. u, λ u. u), λ e. tt)

pub agrees_at : (v w : ℕ) (f : ℕ → Bool) → T (agrees v w f) → (i : ℕ) → i < v → T (bit w i) ↔ T (f i)
unfolding agrees
agrees_at zero w f t i l = absurd (omega arith)
agrees_at (suc v) w f t i l =
    ⊎_elim (λ le. let e : i ≡ v = omega arith in rw e ((same-is (bit w v) (f v)).0 (and_right (agrees v w f) (same (bit w v) (f v)) t)))
    (λ lt. agrees_at v w f (and_left (agrees v w f) (same (bit w v) (f v)) t) i lt) (le-or-gt v i)

pub agrees-in : (v w : ℕ) (f : ℕ → Bool) → ((i : ℕ) → i < v → T (bit w i) ↔ T (f i)) → T (agrees v w f)
unfolding agrees
agrees-in zero w f h = tt
agrees-in (suc v) w f h =
    and_both (agrees v w f) (same (bit w v) (f v)) (agrees-in v w f (λ i l. h i (omega arith))) ((same-is (bit w v) (f v)).1 (h v (omega arith)))

-- ---- only one

-- the lines have the valuation w, and row u of a table has the node where they have the valuation u
module _ (v : ℕ) (f : ℕ → Bool) (a : Bool) (row : ℕ → Bool) (rows : (u : ℕ) → u < 2 ^ v → row u ≡ (a && agrees v u f)) where
  pub row_inside : T (some_below (2 ^ v) row) → T a
  row_inside t = let r = some_at row (2 ^ v) t in and_left a (agrees v r.0 f) (rw (rows r.0 r.1) at r.2)

  module _ (w : ℕ) (l : w < 2 ^ v) (t : T (agrees v w f)) (here : T a) (g : ℕ → Bool) where
    only : (u : ℕ) → u < 2 ^ v → T (g u && row u) → T (g w)
    only u k both =
        let has : T (a && agrees v u f) = rw (rows u k) at (and_right (g u) (row u) both) in
        let at-u = agrees_at v u f (and_right a (agrees v u f) has) in
        let at-w = agrees_at v w f t in
        let e = bits-same v u w k l (λ i m. (λ x. (at-w i m).1 ((at-u i m).0 x), λ x. (at-u i m).1 ((at-w i m).0 x))) in
        rw e at (and_left (g u) (row u) both)

    pub row_at : some_below (2 ^ v) (λ u. g u && row u) ≡ g w
    row_at =
        same_tests (some_below (2 ^ v) (λ u. g u && row u)) (g w)
        (λ s. let r = some_at (λ u. g u && row u) (2 ^ v) s in only r.0 r.1 r.2)
        (λ s. some_in (λ u. g u && row u) (2 ^ v) w l (and_both (g w) (row w) s (rw (rows w l) (and_both a (agrees v w f) here t))))
