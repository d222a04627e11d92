-- Counting: what stops because a number falls; sums over 1 to n; how many of 1 to n, or of a list, pass a test.
use mathlib.Core.Logic.{◌⊎◌, ⊎_elim}
use Prim.Native.Nat.{ℕ, zero, suc, ◌+◌, ◌*◌, ◌≤◌, ◌<◌}
use native.Mathlib.Nat.{suc-mul, le-suc_iff}
use native.Mathlib.Omega.{arith}
use mathlib.Core.List.{List, [], ◌∷◌}
use mathlib.Core.Bool.{Bool, true, false, not}
use lib.ListN.{length}
use lib.Dec.{T, eqb, eqb→eq, eqb_refl}
use Rattle.sheets.specs.Words.{indicator, sum, any_of, member, how_many}
use Rattle.sheets.proofs.Tests.{or_left, or_right, or_cases}
use Rattle.sheets.proofs.Search.{Among}

pub falls : (P : ℕ → Type 0) (m : ℕ → ℕ) → ((k : ℕ) → P k ⊎ (m (suc k) < m k)) → (k : ℕ) × (k ≤ m 0) × P k
falls P m step = let r = go (m 0) 0 (omega arith) in (r.0, omega arith, r.2)
  where
    go : (f k : ℕ) → m k ≤ f → (j : ℕ) × (j ≤ k + f) × P j
    go zero k le = ⊎_elim (λ p. (k, omega arith, p)) (λ lt. absurd (omega arith)) (step k)
    go (suc f) k le = ⊎_elim (λ p. (k, omega arith, p)) (λ lt. let r = go f (suc k) (omega arith) in (r.0, omega arith, r.2)) (step k)

-- ---- sums and counts over 1 to n

pub sum_mono : (n : ℕ) (f g : ℕ → ℕ) → ((i : ℕ) → 1 ≤ i → i ≤ n → f i ≤ g i) → sum n f ≤ sum n g
unfolding sum
sum_mono zero f g h = omega arith
sum_mono (suc n) f g h = omega (arith, sum_mono n f g (λ i lo hi. h i lo (omega arith)), h (suc n) (omega arith) (omega arith))

pub sum-strict : (n : ℕ) (f g : ℕ → ℕ) → ((i : ℕ) → 1 ≤ i → i ≤ n → f i ≤ g i) → Among n (λ i. f i < g i) → sum n f < sum n g
unfolding sum
sum-strict zero f g h k = absurd (omega arith)
sum-strict (suc n) f g h k =
    ⊎_elim (λ le. omega (arith, sum-strict n f g (λ i lo hi. h i lo (omega arith)) (k.0, k.1, le, k.3), h (suc n) (omega arith) (omega arith)))
    (λ e. let s : f (suc n) < g (suc n) = rw e at k.3 in omega (arith, sum_mono n f g (λ i lo hi. h i lo (omega arith)))) (le-suc_iff.0 k.2)

pub sum-most : (n c : ℕ) (f : ℕ → ℕ) → ((i : ℕ) → 1 ≤ i → i ≤ n → f i ≤ c) → sum n f ≤ n * c
unfolding sum
sum-most zero c f h = omega arith
sum-most (suc n) c f h = omega (arith, sum-most n c f (λ i lo hi. h i lo (omega arith)), h (suc n) (omega arith) (omega arith), suc-mul n c)

pub indicator-mono : (a b : Bool) → (T a → T b) → indicator a ≤ indicator b
unfolding indicator
indicator-mono true true h = omega arith
indicator-mono true false h = absurd (h tt)
indicator-mono false b h = omega arith

pub indicator-strict : (a b : Bool) → T (not a) → T b → indicator a < indicator b
unfolding indicator
indicator-strict true b h t = absurd h
indicator-strict false true h t = omega arith
indicator-strict false false h t = absurd t

pub indicator-most : (a : Bool) → indicator a ≤ 1
unfolding indicator
indicator-most true = omega arith
indicator-most false = omega arith

-- how many of 1 to n pass
unfoldable pub number : ℕ → (ℕ → Bool) → ℕ
unfolding sum indicator
number n p = sum n (λ i. indicator (p i))

pub number-mono : (n : ℕ) (p r : ℕ → Bool) → ((i : ℕ) → 1 ≤ i → i ≤ n → T (p i) → T (r i)) → number n p ≤ number n r
unfolding number
number-mono n p r h = sum_mono n (λ i. indicator (p i)) (λ i. indicator (r i)) (λ i lo hi. indicator-mono (p i) (r i) (h i lo hi))

pub number-strict : (n : ℕ) (p r : ℕ → Bool) → ((i : ℕ) → 1 ≤ i → i ≤ n → T (p i) → T (r i))
    → Among n (λ i. T (not (p i)) × T (r i)) → number n p < number n r
unfolding number
number-strict n p r h k =
    sum-strict n (λ i. indicator (p i)) (λ i. indicator (r i)) (λ i lo hi. indicator-mono (p i) (r i) (h i lo hi))
    (k.0, k.1, k.2, indicator-strict (p k.0) (r k.0) k.3.0 k.3.1)

pub number-most : (n : ℕ) (p : ℕ → Bool) → number n p ≤ n
unfolding number
number-most n p = omega (arith, sum-most n 1 (λ i. indicator (p i)) (λ i lo hi. indicator-most (p i)))

-- the same of the elements of a list
pub how_many-mono : (xs : List ℕ) (p r : ℕ → Bool) → ((x : ℕ) → T (member x xs) → T (p x) → T (r x)) → how_many xs p ≤ how_many xs r
unfolding how_many member any_of
how_many-mono [] p r h = omega arith
how_many-mono (x ∷ xs) p r h =
    omega (arith, indicator-mono (p x) (r x) (h x (or_left (eqb x x) (member x xs) (eqb_refl x))), how_many-mono xs p r (λ y m. h y (or_right (eqb y x) (member y xs) m)))

pub how_many-strict : (xs : List ℕ) (p r : ℕ → Bool) → ((x : ℕ) → T (member x xs) → T (p x) → T (r x))
    → (x : ℕ) → T (member x xs) → T (not (p x)) → T (r x) → how_many xs p < how_many xs r
unfolding how_many member any_of
how_many-strict [] p r h x m n t = absurd m
how_many-strict (y ∷ ys) p r h x m n t =
    let first = indicator-mono (p y) (r y) (h y (or_left (eqb y y) (member y ys) (eqb_refl y))) in
    let rest : (z : ℕ) → T (member z ys) → T (p z) → T (r z) = λ z m. h z (or_right (eqb z y) (member z ys) m) in
    ⊎_elim
    (λ u. let e = eqb→eq x y u in omega (arith, indicator-strict (p y) (r y) (rw e at n) (rw e at t), how_many-mono ys p r rest))
    (λ u. omega (arith, first, how_many-strict ys p r rest x u n t)) (or_cases (eqb x y) (member x ys) m)

pub how_many-most : (xs : List ℕ) (p : ℕ → Bool) → how_many xs p ≤ length xs
unfolding how_many
how_many-most [] p = omega arith
how_many-most (x ∷ xs) p = omega (arith, indicator-most (p x), how_many-most xs p)
