-- The bits of what the bit operations give: or, and, complement (as MIR computes `!x`), `1 << k` and `(x >> k) & 1`.
use mathlib.Core.Path.{◌≡◌, refl, sym, ap, ◌∙◌}
use mathlib.Core.Logic.{◌⊎◌, inl, inr}
use Prim.Native.Nat.{ℕ, zero, suc, ◌+◌, ◌-◌, ◌*◌, ◌/◌, ◌%◌, ◌^◌, ◌≤◌, ◌<◌}
use native.Mathlib.Nat.{pow-succ', zero-div, one-mul, div-eq_of_lt, lt_of_lt_of_le}
use native.Mathlib.Omega.{arith}
use mathlib.Core.Bool.{Bool, true, false, not, ◌&&◌, ◌||◌}
use borrow.Author.Tests.{ne_eqb}
use lib.Dec.{eqb, eqb-suc-suc, lit<}
use lib.Bits.{bit_and, bit_or, and_shr, or_shr, and_mod, or_mod, and_mask}
use lib.Pow.{shl_exact, pow_mono}
use lib.Count.{ones, ones_step}
use Rattle.sheets.specs.Words.{bit, indicator, sum}
use Rattle.sheets.proofs.Counting.{number}
use Rattle.sheets.proofs.Bits.{odd-or-even, bit-zero, bit-suc}

abbrev Digit : ℕ → Type 0
Digit x = (x ≡ 1) ⊎ (x ≡ 0)

-- an operation g that works bit by bit, as f does
bitwise : (g : ℕ → ℕ → ℕ) (f : Bool → Bool → Bool)
    → eqb (g 1 1) 1 ≡ f true true → eqb (g 1 0) 1 ≡ f true false → eqb (g 0 1) 1 ≡ f false true → eqb (g 0 0) 1 ≡ f false false
    → (a b i : ℕ) → g a b / 2 ^ i ≡ g (a / 2 ^ i) (b / 2 ^ i) → g (a / 2 ^ i) (b / 2 ^ i) % 2 ≡ g (a / 2 ^ i % 2) (b / 2 ^ i % 2)
    → bit (g a b) i ≡ f (bit a i) (bit b i)
unfolding bit
bitwise g f tt tf ft ff a b i shr low = rw (shr, low) (digits (a / 2 ^ i % 2) (b / 2 ^ i % 2) (odd-or-even (a / 2 ^ i)) (odd-or-even (b / 2 ^ i)))
  where
    digits : (x y : ℕ) → Digit x → Digit y → eqb (g x y) 1 ≡ f (eqb x 1) (eqb y 1)
    digits x y (inl p) (inl q) = rw (p, q) tt
    digits x y (inl p) (inr q) = rw (p, q) tf
    digits x y (inr p) (inl q) = rw (p, q) ft
    digits x y (inr p) (inr q) = rw (p, q) ff

module _ (a b i : ℕ) where
  pub bit-or : bit (bit_or a b) i ≡ (bit a i || bit b i)
  bit-or = bitwise bit_or (λ x y. x || y) refl refl refl refl a b i (or_shr a b i) (or_mod (a / 2 ^ i) (b / 2 ^ i) 1)

  pub bit-and : bit (bit_and a b) i ≡ (bit a i && bit b i)
  bit-and = bitwise bit_and (λ x y. x && y) refl refl refl refl a b i (and_shr a b i) (and_mod (a / 2 ^ i) (b / 2 ^ i) 1)

not_digit : (x y : ℕ) → Digit x → y ≡ 1 - x → eqb y 1 ≡ not (eqb x 1)
not_digit x y (inl p) e = rw (e, p)
not_digit x y (inr p) e = rw (e, p)

-- `!x` at a width of k bits is (2 ^ k - 1) - x
pub bit_not : (k a i : ℕ) → a < 2 ^ k → i < k → bit ((2 ^ k - 1) - a) i ≡ not (bit a i)
bit_not zero a i h l = absurd (omega arith)
bit_not (suc k) a zero h l =
    let e : ((2 ^ suc k - 1) - a) % 2 ≡ 1 - a % 2 = omega (arith, pow-succ' 2 k) in
    rw (bit-zero ((2 ^ suc k - 1) - a), bit-zero a) (not_digit (a % 2) (((2 ^ suc k - 1) - a) % 2) (odd-or-even a) e)
bit_not (suc k) a (suc i) h l =
    let e : ((2 ^ suc k - 1) - a) / 2 ≡ (2 ^ k - 1) - a / 2 = omega (arith, pow-succ' 2 k) in
    rw (bit-suc ((2 ^ suc k - 1) - a) i, bit-suc a i, e) (bit_not k (a / 2) i (omega (arith, pow-succ' 2 k)) (omega arith))

pub bit-none : (i : ℕ) → bit 0 i ≡ false
unfolding bit
bit-none i = rw (zero-div (2 ^ i))

-- a number below 2 ^ k has no bit from k on
pub bit-above : (k x i : ℕ) → x < 2 ^ k → k ≤ i → bit x i ≡ false
unfolding bit
bit-above k x i h l = rw (div-eq_of_lt (lt_of_lt_of_le h (pow_mono l)))

-- 2 ^ k has the bit k alone
pub bit-power : (k i : ℕ) → bit (2 ^ k) i ≡ eqb i k
bit-power zero zero = rw (bit-zero (2 ^ 0))
bit-power zero (suc i) = rw (bit-suc (2 ^ 0) i) (bit-none i ∙ sym (ne_eqb (suc i) 0 (λ e. omega arith)))
bit-power (suc k) zero = let e : 2 ^ suc k % 2 ≡ 0 = omega (arith, pow-succ' 2 k) in rw (bit-zero (2 ^ suc k), e, ne_eqb 0 (suc k) (λ e. omega arith))
bit-power (suc k) (suc i) = let e : 2 ^ suc k / 2 ≡ 2 ^ k = omega (arith, pow-succ' 2 k) in rw (bit-suc (2 ^ suc k) i, e) (bit-power k i ∙ sym (eqb-suc-suc i k))

-- `1 << k` at w bits
pub one_shifted : (w k : ℕ) → k < w → (1 * 2 ^ k) % 2 ^ w ≡ 2 ^ k
one_shifted w k h = shl_exact {a = 1} 1 k w (lit< tt) (omega arith) ∙ one-mul (2 ^ k)

-- `(x >> k) & 1 == 1`
pub bit-read : (x k : ℕ) → eqb (bit_and (x / 2 ^ k) 1) 1 ≡ bit x k
unfolding bit
bit-read x k = ap (λ (y : ℕ). eqb y 1) (and_mask (x / 2 ^ k) 1)

-- how many bits are set: `ones`, which is what `count_ones` gives
sum_low : (k : ℕ) (f : ℕ → ℕ) → sum (suc k) f ≡ f 1 + sum k (λ i. f (suc i))
unfolding sum
sum_low zero f = omega arith
sum_low (suc k) f = omega (arith, sum_low k f)

pub sum_same : (k : ℕ) (f g : ℕ → ℕ) → ((i : ℕ) → 1 ≤ i → i ≤ k → f i ≡ g i) → sum k f ≡ sum k g
unfolding sum
sum_same zero f g h = refl
sum_same (suc k) f g h = omega (arith, sum_same k f g (λ i lo hi. h i lo (omega arith)), h (suc k) (omega arith) (omega arith))

indicator-digit : (x : ℕ) → Digit x → indicator (eqb x 1) ≡ x
unfolding indicator
indicator-digit x (inl p) = rw p
indicator-digit x (inr p) = rw p

indicator-low : (x : ℕ) → indicator (bit x 0) ≡ x % 2
indicator-low x = rw (bit-zero x) (indicator-digit (x % 2) (odd-or-even x))

ones_none : ones 0 ≡ sum 0 (λ i. indicator (bit 0 (i - 1)))
unfolding ones sum
ones_none = refl

pub ones-number : (k x : ℕ) → x < 2 ^ k → ones x ≡ number k (λ i. bit x (i - 1))
unfolding number
ones-number zero x h = let e : x ≡ 0 = omega arith in rw e ones_none
ones-number (suc k) x h =
    let high = ones-number k (x / 2) (omega (arith, pow-succ' 2 k)) in
    let same = sum_same k (λ i. indicator (bit x (suc i - 1))) (λ i. indicator (bit (x / 2) (i - 1)))
    (λ i lo hi. let e : suc i - 1 ≡ suc (i - 1) = omega arith in rw (e, bit-suc x (i - 1))) in
    omega (arith, ones_step x, indicator-low x, high, same, sum_low k (λ i. indicator (bit x (i - 1))))
