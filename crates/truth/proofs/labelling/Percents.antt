-- The percent is the nearest whole number, a half the even one (`percent-nearest`), and no other number is (`nearest-percent`). What it is in
-- each of its three cases is said first, for the code.
use mathlib.Core.Path.{◌≡◌, refl, sym, ap, ◌∙◌}
use mathlib.Core.Logic.{◌≢◌, by_cases}
use Prim.Native.Nat.{ℕ, suc, ◌+◌, ◌-◌, ◌*◌, ◌/◌, ◌%◌, ◌≤◌, ◌<◌}
use native.Mathlib.Nat.{mod-lt, mul-mod_left, mul-div_cancel, div-add-mod', mul-le-mul_left, mul_comm, mul-suc, le_antisymm}
use native.Mathlib.Numerals.{add-one}
use native.Mathlib.Decide.{dec_lt, dec_le, ℕ_discrete}
use native.Mathlib.Omega.{arith}
use borrow.Author.Tests.{lt-ltb, le-ltb}
use Rattle.truth.specs.Labelling.{percent, apart, NearestPercent}

module _ (c n : ℕ) where
  pub percent-below : 2 * (100 * c % n) < n → percent c n ≡ 100 * c / n
  unfolding percent
  percent-below h = rw (lt-ltb (2 * (100 * c % n)) n h) refl

  pub percent-above : n < 2 * (100 * c % n) → percent c n ≡ 100 * c / n + 1
  unfolding percent
  percent-above h = rw (le-ltb (2 * (100 * c % n)) n (omega arith), lt-ltb n (2 * (100 * c % n)) h) refl

  pub percent-half : 2 * (100 * c % n) ≡ n → percent c n ≡ 100 * c / n + 100 * c / n % 2
  unfolding percent
  percent-half h = rw (le-ltb (2 * (100 * c % n)) n (omega arith), le-ltb n (2 * (100 * c % n)) (omega arith)) refl

-- where n goes into 100c, the percent is how often
pub percent-exact : (c n p : ℕ) → 1 ≤ n → 100 * c ≡ p * n → percent c n ≡ p
percent-exact c n p some e =
    let no-rest : 100 * c % n ≡ 0 = rw e (mul-mod_left p n) in
    percent-below c n (omega arith) ∙ rw e (mul-div_cancel p some)

-- p is q + r / n rounded, a half to the even one
data Rounded (n q r p : ℕ) : Type 0 where
  down : 2 * r < n → p ≡ q → Rounded n q r p
  up : n < 2 * r → p ≡ suc q → Rounded n q r p
  even : 2 * r ≡ n → q ≤ p → p ≤ suc q → p % 2 ≡ 0 → Rounded n q r p

-- ---- how near the whole numbers are to a / n, where q and r are the quotient and the rest

module _ (n q r a : ℕ) (sum : q * n + r ≡ a) (rest : r < n) where
  at-whole : apart (n * q) a ≡ r
  at-whole = omega (arith, mul_comm n q)

  at_next : apart (n * suc q) a ≡ n - r
  at_next = omega (arith, mul-suc n q, mul_comm n q)

  below : (k : ℕ) → k < q → r + n ≤ apart (n * k) a
  below k h = omega (arith, mul-le-mul_left n h, mul-suc n k, mul_comm n q)

  above : (k : ℕ) → suc q < k → (n - r) + n ≤ apart (n * k) a
  above k h = omega (arith, mul-le-mul_left n h, mul-suc n (suc q), mul-suc n q, mul_comm n q)

  away : (p k : ℕ) → p ≡ k → apart (n * p) a ≡ apart (n * k) a
  away p k e = ap (λ (x : ℕ). apart (n * x) a) e

  -- none is nearer than the nearer one of q and q + 1
  none-nearer : (d : ℕ) → d ≤ r → d ≤ n - r → (k : ℕ) → d ≤ apart (n * k) a
  none-nearer d low high k =
      by_cases (dec_lt k q) (λ lt. omega (arith, below k lt))
      (λ ge. by_cases (dec_lt (suc q) k) (λ gt. omega (arith, above k gt))
      (λ le. by_cases (dec_le k q) (λ eq. omega (arith, at-whole, away k q (same ge eq)))
      (λ ne. omega (arith, at_next, away k (suc q) (after le ne)))))
    where
      same : Prim.¬◌ (k < q) → k ≤ q → k ≡ q
      same ge eq = omega arith

      after : Prim.¬◌ (suc q < k) → Prim.¬◌ (k ≤ q) → k ≡ suc q
      after le ne = omega arith

  -- a nearest one is one of the two
  one_of_two : (p : ℕ) → ((k : ℕ) → apart (n * p) a ≤ apart (n * k) a) → (q ≤ p) × (p ≤ suc q)
  one_of_two p near = (
    by_cases (dec_lt p q) (λ lt. absurd (omega (arith, below p lt, at-whole, near q))) (λ ge. omega arith),
    by_cases (dec_lt (suc q) p) (λ gt. absurd (omega (arith, above p gt, at_next, near (suc q)))) (λ le. omega arith),
  )

  half-away : 2 * r ≡ n → (p : ℕ) → q ≤ p → p ≤ suc q → apart (n * p) a ≡ r
  half-away e p lo hi =
      by_cases (dec_le p q) (λ le. away p q (omega arith) ∙ at-whole) (λ gt. away p (suc q) (omega arith) ∙ at_next ∙ omega arith)

  -- ---- the rounded one

  rounded-near : (p : ℕ) → Rounded n q r p → (k : ℕ) → apart (n * p) a ≤ apart (n * k) a
  rounded-near p (down h e) k = omega (arith, away p q e, at-whole, none-nearer r (omega arith) (omega arith) k)
  rounded-near p (up h e) k = omega (arith, away p (suc q) e, at_next, none-nearer (n - r) (omega arith) (omega arith) k)
  rounded-near p (even h lo hi two) k = omega (arith, half-away h p lo hi, none-nearer r (omega arith) (omega arith) k)

  rounded-tie : (p : ℕ) → Rounded n q r p → (k : ℕ) → k ≢ p → apart (n * k) a ≡ apart (n * p) a → p % 2 ≡ 0
  rounded-tie p m k other same = go m
    where
      two : (q ≤ k) × (k ≤ suc q)
      two = one_of_two k (λ j. omega (arith, rounded-near p m j))

      -- only a half is as near to both
      half : n - r ≡ r → 2 * r ≡ n
      half e = omega arith

      go : Rounded n q r p → p % 2 ≡ 0
      go (down h e) =
          let as-near = half (sym at_next ∙ sym (away k (suc q) (omega (arith, two))) ∙ same ∙ away p q e ∙ at-whole) in
          absurd (omega arith)
      go (up h e) =
          let as-near = half (sym at_next ∙ sym (away p (suc q) e) ∙ sym same ∙ away k q (omega (arith, two)) ∙ at-whole) in
          absurd (omega arith)
      go (even h lo hi t) = t

  once :
      (p m : ℕ) → ((k : ℕ) → apart (n * p) a ≤ apart (n * k) a)
      → ((k : ℕ) → k ≢ p → apart (n * k) a ≡ apart (n * p) a → p % 2 ≡ 0) → Rounded n q r m → p ≡ m
  once p m near tie round =
      by_cases (ℕ_discrete p m) (λ e. e)
      (λ ne. absurd (
      let same : apart (n * m) a ≡ apart (n * p) a = le_antisymm (rounded-near m round p) (near m) in
      omega (arith, one_of_two p near, one_of_two m (rounded-near m round), tie m (λ e. ne (sym e)) same, rounded-tie m round p ne (sym same))))

-- ---- the percent

percent-rounded : (c n : ℕ) → Rounded n (100 * c / n) (100 * c % n) (percent c n)
percent-rounded c n =
    by_cases (dec_lt (2 * (100 * c % n)) n) (λ lt. down lt (percent-below c n lt))
    (λ ge. by_cases (dec_lt n (2 * (100 * c % n))) (λ gt. up gt (percent-above c n gt ∙ add-one (100 * c / n)))
    (λ le.
    let h : 2 * (100 * c % n) ≡ n = omega arith in
    let e = percent-half c n h in
    even h (omega (arith, e)) (omega (arith, e)) (omega (arith, e))))

pub percent-nearest : (c n : ℕ) → 1 ≤ n → NearestPercent c n (percent c n)
percent-nearest c n some =
    let sum = div-add-mod' (100 * c) n in
    let rest = mod-lt (100 * c) some in
    record {
      near = rounded-near n (100 * c / n) (100 * c % n) (100 * c) sum rest (percent c n) (percent-rounded c n);
      tie = rounded-tie n (100 * c / n) (100 * c % n) (100 * c) sum rest (percent c n) (percent-rounded c n);
    }

pub nearest-percent : (c n p : ℕ) → 1 ≤ n → NearestPercent c n p → p ≡ percent c n
nearest-percent c n p some h =
    once n (100 * c / n) (100 * c % n) (100 * c) (div-add-mod' (100 * c) n) (mod-lt (100 * c) some) p (percent c n) h.near h.tie
    (percent-rounded c n)
