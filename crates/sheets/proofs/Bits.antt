-- Bits: decided statements are the bits of one number, and numbers with the same bits are one.
use mathlib.Core.Path.{◌≡◌}
use mathlib.Core.Logic.{◌⊎◌, inl, inr, ⊎_elim, ◌↔◌}
use Prim.Native.Nat.{ℕ, zero, suc, ◌+◌, ◌*◌, ◌/◌, ◌%◌, ◌^◌, ◌<◌}
use native.Mathlib.Nat.{div-div-eq-div-mul, pow-succ', div-one, zero-div}
use native.Mathlib.Omega.{arith}
use mathlib.Core.Bool.{Bool, true, false}
use lib.Dec.{T, eqb, eqb→eq}
use Rattle.sheets.specs.Words.{bit, indicator}
use Rattle.sheets.proofs.Tests.{truth, truth-is}
use Rattle.sheets.proofs.Search.{le-or-gt}
use Rattle.sheets.proofs.Counting.{indicator-most}

pub bit-zero : (x : ℕ) → bit x 0 ≡ eqb (x % 2) 1
unfolding bit
bit-zero x = rw (div-one x)

pub bit-suc : (x i : ℕ) → bit x (suc i) ≡ bit (x / 2) i
unfolding bit
bit-suc x i = rw (pow-succ' 2 i, div-div-eq-div-mul x 2 (2 ^ i))

pub no-bit : (i : ℕ) → T (bit 0 i) → ⊥
unfolding bit
no-bit i t = rw (zero-div (2 ^ i)) at t

-- a number from its lowest bit and the others
low : (c : Bool) (x : ℕ) → bit (indicator c + 2 * x) 0 ≡ c
unfolding indicator
low true x = let e : (1 + 2 * x) % 2 ≡ 1 = omega arith in rw (bit-zero (1 + 2 * x), e)
low false x = let e : (0 + 2 * x) % 2 ≡ 0 = omega arith in rw (bit-zero (0 + 2 * x), e)

high : (c : Bool) (x i : ℕ) → bit (indicator c + 2 * x) (suc i) ≡ bit x i
high c x i = let e : (indicator c + 2 * x) / 2 ≡ x = omega (arith, indicator-most c) in rw (bit-suc (indicator c + 2 * x) i, e)

-- decided truths P 0 to P (v - 1) are the bits of a number
pub number_of : (v : ℕ) (P : ℕ → Type 0) → ((i : ℕ) → i < v → Dec (P i)) → (w : ℕ) × (w < 2 ^ v) × ((i : ℕ) → i < v → T (bit w i) ↔ P i)
number_of zero P d = (0, omega arith, λ i l. absurd (omega arith))
number_of (suc v) P d =
    let first = d 0 (omega arith) in
    let c = truth first in
    let r = number_of v (λ i. P (suc i)) (λ i l. d (suc i) (omega arith)) in (
      indicator c + 2 * r.0,
      omega (arith, pow-succ' 2 v, indicator-most c),
      elim [ zero ↦ λ l. rw (low c r.0) (truth-is first) | suc i ↦ λ l. rw (high c r.0 i) (r.2 i (omega arith)) ],
    )

-- two numbers with the same bits are one
pub odd-or-even : (x : ℕ) → (x % 2 ≡ 1) ⊎ (x % 2 ≡ 0)
odd-or-even x = ⊎_elim (λ le. inl (omega arith)) (λ lt. inr (omega arith)) (le-or-gt 1 (x % 2))

parity : (x y : ℕ) → T (eqb (x % 2) 1) ↔ T (eqb (y % 2) 1) → x % 2 ≡ y % 2
parity x y h =
    ⊎_elim (λ p. omega (arith, eqb→eq (y % 2) 1 (h.0 (rw p tt))))
    (λ p. ⊎_elim (λ q. omega (arith, eqb→eq (x % 2) 1 (h.1 (rw q tt)))) (λ q. omega arith) (odd-or-even y)) (odd-or-even x)

pub bits-same : (v x y : ℕ) → x < 2 ^ v → y < 2 ^ v → ((i : ℕ) → i < v → T (bit x i) ↔ T (bit y i)) → x ≡ y
bits-same zero x y a b h = omega arith
bits-same (suc v) x y a b h =
    let e = bits-same v (x / 2) (y / 2) (omega (arith, pow-succ' 2 v)) (omega (arith, pow-succ' 2 v))
    (λ i l. rw (← (bit-suc x i), ← (bit-suc y i)) (h (suc i) (omega arith))) in
    omega (arith, parity x y (rw (bit-zero x, bit-zero y) at (h 0 (omega arith))))
