-- Finite search: the tests `within`, `each` and `some` over 1 to n, and `all_of`, `any_of`, `member` and `passing` over a list, as
-- statements; all of finitely many numbers have one property or some number has another; so what all of them have is decided.
use mathlib.Core.Path.{◌≡◌}
use mathlib.Core.Logic.{◌⊎◌, inl, inr, ⊎_elim, ⊎_map, ⊎_swap, by_cases}
use Prim.Native.Nat.{ℕ, zero, suc, ◌-◌, ◌≤◌, ◌<◌}
use native.Mathlib.Nat.{le-suc_iff}
use native.Mathlib.Omega.{arith}
use native.Mathlib.Decide.{dec_le, dec_lt}
use mathlib.Core.List.{List, [], ◌∷◌}
use mathlib.Core.Bool.{Bool, true, false, not, ◌&&◌, ◌||◌}
use lib.Dec.{T, leb, leb→le, le→leb, eqb, eqb→eq, eqb_refl}
use Rattle.sheets.specs.Words.{within, each, all_of, any_of, member}
use Rattle.sheets.specs.Rules.{keep, passing}
use Rattle.sheets.proofs.Tests.{and_left, and_right, and_both, or_left, or_right, or_cases, test, contrary}

pub le-or-gt : (i n : ℕ) → (i ≤ n) ⊎ (n < i)
le-or-gt i n = by_cases (dec_le i n) inl (λ h. inr (omega arith))

-- ---- from `lo` to `hi`

pub within-at : (lo hi x : ℕ) → T (within lo hi x) → (lo ≤ x) × (x ≤ hi)
within-at lo hi x t = (leb→le lo x (and_left (leb lo x) (leb x hi) t), leb→le x hi (and_right (leb lo x) (leb x hi) t))

pub within_in : (lo hi x : ℕ) → lo ≤ x → x ≤ hi → T (within lo hi x)
within_in lo hi x l h = and_both (leb lo x) (leb x hi) (le→leb lo x l) (le→leb x hi h)

-- ---- among 1 to n: `each` asks all of them, `some` one of them

unfoldable pub some : ℕ → (ℕ → Bool) → Bool
some zero p = false
some (suc n) p = some n p || p (suc n)

-- what some number among 1 to n has
abbrev pub Among : ℕ → (ℕ → Type 0) → Type 0
Among n P = (i : ℕ) × (1 ≤ i) × (i ≤ n) × P i

pub each_at : (n : ℕ) (p : ℕ → Bool) → T (each n p) → (i : ℕ) → 1 ≤ i → i ≤ n → T (p i)
unfolding each
each_at zero p t i lo hi = absurd (omega arith)
each_at (suc n) p t i lo hi =
    ⊎_elim (λ le. each_at n p (and_left (each n p) (p (suc n)) t) i lo le) (λ e. rw e (and_right (each n p) (p (suc n)) t))
    (le-suc_iff.0 hi)

pub each_in : (n : ℕ) (p : ℕ → Bool) → ((i : ℕ) → 1 ≤ i → i ≤ n → T (p i)) → T (each n p)
unfolding each
each_in zero p h = tt
each_in (suc n) p h = and_both (each n p) (p (suc n)) (each_in n p (λ i lo hi. h i lo (omega arith))) (h (suc n) (omega arith) (omega arith))

-- a test that follows from another
pub each_map : (n : ℕ) (p r : ℕ → Bool) → ((i : ℕ) → T (p i) → T (r i)) → T (each n p) → T (each n r)
each_map n p r h t = each_in n r (λ i lo hi. h i (each_at n p t i lo hi))

pub some_at : (n : ℕ) (p : ℕ → Bool) → T (some n p) → Among n (λ i. T (p i))
unfolding some
some_at zero p t = absurd t
some_at (suc n) p t =
    ⊎_elim (λ u. let r = some_at n p u in (r.0, r.1, omega arith, r.3)) (λ u. (suc n, omega arith, omega arith, u))
    (or_cases (some n p) (p (suc n)) t)

pub some_in : (n : ℕ) (p : ℕ → Bool) (i : ℕ) → 1 ≤ i → i ≤ n → T (p i) → T (some n p)
unfolding some
some_in zero p i lo hi t = absurd (omega arith)
some_in (suc n) p i lo hi t =
    ⊎_elim (λ le. or_left (some n p) (p (suc n)) (some_in n p i lo le t)) (λ e. or_right (some n p) (p (suc n)) (rw e at t))
    (le-suc_iff.0 hi)

-- ---- one property or another at each of finitely many numbers: the first at all of them, or the second at one

pub all-or-one : (n : ℕ) (P Q : ℕ → Type 0) → ((i : ℕ) → i < n → P i ⊎ Q i) → ((i : ℕ) → i < n → P i) ⊎ ((i : ℕ) × (i < n) × Q i)
all-or-one zero P Q d = inl (λ i h. absurd (omega arith))
all-or-one (suc n) P Q d = join (d n (omega arith)) (all-or-one n P Q (λ i h. d i (omega arith)))
  where
    join : P n ⊎ Q n → ((i : ℕ) → i < n → P i) ⊎ ((i : ℕ) × (i < n) × Q i) → ((i : ℕ) → i < suc n → P i) ⊎ ((i : ℕ) × (i < suc n) × Q i)
    join (inr q) y = inr (n, omega arith, q)
    join (inl p) (inr y) = inr (y.0, omega arith, y.2)
    join (inl p) (inl f) = inl (λ i h. by_cases (dec_lt i n) (f i) (λ l. let e : i ≡ n = omega arith in rw e p))

-- the same of 1 to n
pub all-or-some : (n : ℕ) (P Q : ℕ → Type 0) → ((i : ℕ) → 1 ≤ i → i ≤ n → P i ⊎ Q i) → ((i : ℕ) → 1 ≤ i → i ≤ n → P i) ⊎ Among n Q
all-or-some n P Q d =
    ⊎_map (λ h i lo hi. let e : suc (i - 1) ≡ i = omega arith in rw e at (h (i - 1) (omega arith)))
    (λ r. (suc r.0, omega arith, omega arith, r.2))
    (all-or-one n (λ i. P (suc i)) (λ i. Q (suc i)) (λ i h. d (suc i) (omega arith) h))

-- one of 1 to n passes, or none does
pub find : (n : ℕ) (p : ℕ → Bool) → Among n (λ i. T (p i)) ⊎ ((i : ℕ) → 1 ≤ i → i ≤ n → T (not (p i)))
find n p =
    ⊎_swap (all-or-some n (λ i. T (not (p i))) (λ i. T (p i)) (λ i lo hi. ⊎_swap (test (p i))))

pub dec-each : (P : ℕ → Type 0) (n : ℕ) → ((i : ℕ) → 1 ≤ i → i ≤ n → Dec (P i)) → Dec ((i : ℕ) → 1 ≤ i → i ≤ n → P i)
dec-each P n d =
    ⊎_elim yes (λ r. no (λ h. r.3 (h r.0 r.1 r.2)))
    (all-or-some n P (λ i. P i → ⊥) (λ i lo hi. by_cases (d i lo hi) inl inr))

-- what there is for each number of a decided kind, as a function
pub chosen : (D : ℕ → Type 0) → ((i : ℕ) → Dec (D i)) → (P : ℕ → ℕ → Type 0) → ((i : ℕ) → D i → (x : ℕ) × P i x)
    → (g : ℕ → ℕ) × ((i : ℕ) → D i → P i (g i))
chosen D dec P h = (λ i. value i (dec i), λ i d. has i d (dec i))
  where
    value : (i : ℕ) → Dec (D i) → ℕ
    value i (yes d) = (h i d).0
    value i (no m) = 0

    has : (i : ℕ) → D i → (e : Dec (D i)) → P i (value i e)
    has i d (yes d') = (h i d').1
    has i d (no m) = absurd (m d)

-- ---- in a list

pub any_at : (xs : List ℕ) (p : ℕ → Bool) → T (any_of xs p) → (x : ℕ) × T (member x xs) × T (p x)
unfolding any_of member
any_at [] p t = absurd t
any_at (x ∷ xs) p t =
    ⊎_elim (λ u. (x, or_left (eqb x x) (member x xs) (eqb_refl x), u))
    (λ u. let r = any_at xs p u in (r.0, or_right (eqb r.0 x) (member r.0 xs) r.1, r.2)) (or_cases (p x) (any_of xs p) t)

pub any-in : (xs : List ℕ) (p : ℕ → Bool) (x : ℕ) → T (member x xs) → T (p x) → T (any_of xs p)
unfolding any_of member
any-in [] p x m t = absurd m
any-in (y ∷ ys) p x m t =
    ⊎_elim (λ u. or_left (p y) (any_of ys p) (rw (eqb→eq x y u) at t)) (λ u. or_right (p y) (any_of ys p) (any-in ys p x u t))
    (or_cases (eqb x y) (member x ys) m)

pub all-at : (xs : List ℕ) (p : ℕ → Bool) → T (all_of xs p) → (x : ℕ) → T (member x xs) → T (p x)
unfolding all_of any_of member
all-at [] p t x m = absurd m
all-at (y ∷ ys) p t x m =
    ⊎_elim (λ u. rw (eqb→eq x y u) (and_left (p y) (all_of ys p) t)) (λ u. all-at ys p (and_right (p y) (all_of ys p) t) x u)
    (or_cases (eqb x y) (member x ys) m)

-- an element fails
pub fails-at : (xs : List ℕ) (p : ℕ → Bool) → T (not (all_of xs p)) → (x : ℕ) × T (member x xs) × T (not (p x))
unfolding all_of any_of member
fails-at [] p t = absurd t
fails-at (y ∷ ys) p t =
    ⊎_elim
    (λ u.
    let r = fails-at ys p (contrary (all_of ys p) (p y && all_of ys p) (and_both (p y) (all_of ys p) u) t) in
    (r.0, or_right (eqb r.0 y) (member r.0 ys) r.1, r.2))
    (λ n. (y, or_left (eqb y y) (member y ys) (eqb_refl y), n)) (test (p y))

-- ---- members of what a filter leaves

keep-in : (b : Bool) (x y : ℕ) (ys : List ℕ) → T (member x ys) → T (member x (keep b y ys))
unfolding keep member any_of
keep-in true x y ys m = or_right (eqb x y) (member x ys) m
keep-in false x y ys m = m

keep-top : (b : Bool) (x : ℕ) (ys : List ℕ) → T b → T (member x (keep b x ys))
unfolding keep member any_of
keep-top true x ys t = or_left (eqb x x) (member x ys) (eqb_refl x)
keep-top false x ys t = absurd t

keep_at : (b : Bool) (x y : ℕ) (ys : List ℕ) → T (member x (keep b y ys)) → (T b × (x ≡ y)) ⊎ T (member x ys)
unfolding keep member any_of
keep_at true x y ys m = ⊎_elim (λ u. inl (tt, eqb→eq x y u)) inr (or_cases (eqb x y) (member x ys) m)
keep_at false x y ys m = inr m

pub passing-in : (p : ℕ → Bool) (ys : List ℕ) (x : ℕ) → T (member x ys) → T (p x) → T (member x (passing p ys))
unfolding passing member any_of
passing-in p [] x m t = m
passing-in p (y ∷ ys) x m t =
    ⊎_elim (λ u. let e = eqb→eq x y u in rw e (keep-top (p y) y (passing p ys) (rw e at t)))
    (λ u. keep-in (p y) x y (passing p ys) (passing-in p ys x u t)) (or_cases (eqb x y) (member x ys) m)

pub passing-at : (p : ℕ → Bool) (ys : List ℕ) (x : ℕ) → T (member x (passing p ys)) → T (member x ys) × T (p x)
unfolding passing member any_of
passing-at p [] x m = absurd m
passing-at p (y ∷ ys) x m =
    ⊎_elim (λ u. let e = u.1 in (or_left (eqb x y) (member x ys) (rw e (eqb_refl y)), rw e u.0))
    (λ u. let r = passing-at p ys x u in (or_right (eqb x y) (member x ys) r.0, r.1)) (keep_at (p y) x y (passing p ys) m)
