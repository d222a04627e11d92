-- What the pairs of two sets count, two in one and one in the other: less where pairs leave the first for the second, or leave the second.
use mathlib.Core.Path.{◌≡◌}
use mathlib.Core.Logic.{◌⊎◌, ⊎_elim}
use Prim.Native.Nat.{ℕ, ◌+◌, ◌-◌, ◌≤◌, ◌<◌, ◌*◌}
use native.Mathlib.Omega.{arith}
use mathlib.Core.Bool.{Bool, true, false, not}
use lib.Dec.{T, not_T}
use Rattle.sheets.specs.Words.{indicator, sum}
use Rattle.sheets.proofs.Counting.{sum_mono, sum-strict, sum-most, indicator-mono, indicator-strict, indicator-most}
use Rattle.truth.specs.Sizes.{positions_most, members_most, pairs_most}
use Rattle.truth.specs.inner.Pairs.{weigh, weight}

weigh-less : (x g x' g' : Bool) → (T x' → T x) → (T g' → T g ⊎ (T x × T (not x'))) → weigh x' g' ≤ weigh x g
unfolding weigh indicator
weigh-less true g true g' f h = omega (arith, indicator-mono g' g (λ t. ⊎_elim (λ y. y) (λ w. absurd w.1) (h t)))
weigh-less true g false g' f h = omega (arith, indicator-most g')
weigh-less false g true g' f h = absurd (f tt)
weigh-less false g false g' f h = omega (arith, indicator-mono g' g (λ t. ⊎_elim (λ y. y) (λ w. absurd w.0) (h t)))

weigh-falls : (x g x' g' : Bool) → (T x' → T x) → T g → (T g' → T x × T (not x')) → weigh x' g' < weigh x g
unfolding weigh indicator
weigh-falls true g true g' f t h = omega (arith, indicator-strict g' g (not_T g' (λ y. (h y).1)) t)
weigh-falls true g false g' f t h = omega (arith, indicator-most g')
weigh-falls false g true g' f t h = absurd (f tt)
weigh-falls false g false g' f t h = omega (arith, indicator-strict g' g (not_T g' (λ y. (h y).0)) t)

weigh-most : (x g : Bool) → weigh x g ≤ 3
unfolding weigh
weigh-most x g = omega (arith, indicator-most x, indicator-most g)

-- at most 3 a pair
pub weight-most : (t : ℕ) (x g : ℕ → ℕ → Bool) → t ≤ positions_most → weight t x g ≤ 3 * pairs_most
unfolding weight
weight-most t x g h =
    let row : ℕ → ℕ → ℕ = λ q s. weigh (x (q - 1) s) (g (q - 1) s) in
    omega (arith, sum-most t (3 * members_most) (λ q. sum members_most (row q)) (λ q lo hi. sum-most members_most 3 (row q) (λ s lo hi. weigh-most (x (q - 1) s) (g (q - 1) s))))

module _ (t : ℕ) (x g x' g' : ℕ → ℕ → Bool) (fewer : (p s : ℕ) → T (x' p s) → T (x p s))
    (gains : (p s : ℕ) → T (g' p s) → T (g p s) ⊎ (T (x p s) × T (not (x' p s)))) where
  abbrev before : ℕ → ℕ → ℕ
  before q s = weigh (x (q - 1) s) (g (q - 1) s)

  abbrev after : ℕ → ℕ → ℕ
  after q s = weigh (x' (q - 1) s) (g' (q - 1) s)

  pair-less : (q s : ℕ) → after q s ≤ before q s
  pair-less q s = weigh-less (x (q - 1) s) (g (q - 1) s) (x' (q - 1) s) (g' (q - 1) s) (fewer (q - 1) s) (gains (q - 1) s)

  row-less : (q : ℕ) → sum members_most (after q) ≤ sum members_most (before q)
  row-less q = sum_mono members_most (after q) (before q) (λ s lo hi. pair-less q s)

  pub weight-less : weight t x' g' ≤ weight t x g
  unfolding weight
  weight-less = sum_mono t (λ q. sum members_most (after q)) (λ q. sum members_most (before q)) (λ q lo hi. row-less q)

  -- a pair of g that is no longer there, unless it has just come from x
  pub weight-falls : (p s : ℕ) → p < t → 1 ≤ s → s ≤ members_most → T (g p s) → (T (g' p s) → T (x p s) × T (not (x' p s))) → weight t x' g' < weight t x g
  unfolding weight
  weight-falls p s l a b y out =
      let e : p + 1 - 1 ≡ p = omega arith in
      let here : after (p + 1) s < before (p + 1) s = rw e (weigh-falls (x p s) (g p s) (x' p s) (g' p s) (fewer p s) y out) in
      sum-strict t (λ q. sum members_most (after q)) (λ q. sum members_most (before q)) (λ q lo hi. row-less q)
      (p + 1, omega arith, omega arith, sum-strict members_most (after (p + 1)) (before (p + 1)) (λ i lo hi. pair-less (p + 1) i) (s, a, b, here))
