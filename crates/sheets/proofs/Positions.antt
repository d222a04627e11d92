-- Positions, which count from 0: the elements of a list by their positions, and what a loop over positions has: a test that some
-- position below n passes, a set of positions as the bits of a word, and a table of rows.
use mathlib.Core.Path.{◌≡◌, refl, sym, ◌∙◌}
use mathlib.Core.Logic.{◌⊎◌, inl, inr, ⊎_elim}
use Prim.Native.Nat.{ℕ, zero, suc, ◌+◌, ◌^◌, ◌≤◌, ◌<◌}
use native.Mathlib.Numerals.{add-one}
use native.Mathlib.Omega.{arith}
use mathlib.Core.List.{List, [], ◌∷◌}
use mathlib.Core.Bool.{Bool, true, false, not, ◌&&◌, ◌||◌, and-true, and-false, or-false, or_assoc}
use borrow.Author.Tests.{lt-ltb, le-ltb, eq-eqb, ne_eqb}
use lib.ListN.{length, get_or, set}
use lib.Seq.{get_or-set_same, get_or-set_other}
use lib.Dec.{T, T_not, not_T, ltb, eqb, eqb→eq, eqb_refl}
use Rattle.sheets.specs.Words.{bit, any_of, member}
use Rattle.sheets.specs.inner.Positions.{some_below}
use Rattle.sheets.proofs.Tests.{or_left, or_right, or_cases, passed, surely}
use Rattle.sheets.proofs.Search.{le-or-gt}
use Rattle.sheets.proofs.Bits.{bits-same, no-bit}

-- two tests that pass together are one
pub same_tests : (a b : Bool) → (T a → T b) → (T b → T a) → a ≡ b
same_tests true b f g = sym (passed b (f tt))
same_tests false true f g = absurd (g tt)
same_tests false false f g = refl

-- below i + 1 is below i, or i
pub below_split : (i j : ℕ) → j < i + 1 → (j < i) ⊎ (j ≡ i)
below_split i j h = ⊎_elim (λ le. inr (omega arith)) (λ lt. inl (omega arith)) (le-or-gt i j)

-- ---- the elements of a list

pub place_in : (xs : List ℕ) (i : ℕ) → i < length xs → T (member (get_or xs i 0) xs)
unfolding member any_of
place_in [] i h = absurd (omega arith)
place_in (x ∷ xs) zero h = or_left (eqb x x) (member x xs) (eqb_refl x)
place_in (x ∷ xs) (suc i) h = or_right (eqb (get_or xs i 0) x) (member (get_or xs i 0) xs) (place_in xs i (omega arith))

pub place_of : (xs : List ℕ) (x : ℕ) → T (member x xs) → (i : ℕ) × (i < length xs) × (get_or xs i 0 ≡ x)
unfolding member any_of
place_of [] x t = absurd t
place_of (y ∷ ys) x t =
    ⊎_elim (λ u. (0, omega arith, sym (eqb→eq x y u))) (λ u. let r = place_of ys x u in (suc r.0, omega arith, r.2))
    (or_cases (eqb x y) (member x ys) t)

-- ---- some position passes

module _ (p : ℕ → Bool) where
  pub some-none : some_below 0 p ≡ false
  unfolding some_below
  some-none = refl

  pub some_more : (k : ℕ) → some_below (k + 1) p ≡ (some_below k p || p k)
  unfolding some_below
  some_more k = rw (add-one k)

  pub some_at : (n : ℕ) → T (some_below n p) → (i : ℕ) × (i < n) × T (p i)
  unfolding some_below
  some_at zero t = absurd t
  some_at (suc n) t =
      ⊎_elim (λ u. let r = some_at n u in (r.0, omega arith, r.2)) (λ u. (n, omega arith, u)) (or_cases (some_below n p) (p n) t)

  pub some_in : (n i : ℕ) → i < n → T (p i) → T (some_below n p)
  unfolding some_below
  some_in zero i h t = absurd (omega arith)
  some_in (suc n) i h t =
      ⊎_elim (λ le. or_right (some_below n p) (p n) (let e : i ≡ n = omega arith in rw e at t))
      (λ lt. or_left (some_below n p) (p n) (some_in n i (omega arith) t)) (le-or-gt n i)

pub some_same : (p q : ℕ → Bool) → ((i : ℕ) → p i ≡ q i) → (n : ℕ) → some_below n p ≡ some_below n q
unfolding some_below
some_same p q h zero = refl
some_same p q h (suc n) = rw (some_same p q h n, h n)

-- a word is not 0 where it has some position
pub some-bit : (n x : ℕ) → x < 2 ^ n → not (eqb x 0) ≡ some_below n (bit x)
some-bit n x h =
    same_tests (not (eqb x 0)) (some_below n (bit x)) (λ t. surely (some_below n (bit x)) (λ u. T_not (eqb x 0) t (rw (none u) tt)))
    (λ t. not_T (eqb x 0) (λ u. let r = some_at (bit x) n t in none-there r.0 (eqb→eq x 0 u) r.2))
  where
    none-there : (i : ℕ) → x ≡ 0 → T (bit x i) → ⊥
    none-there i e t = no-bit i (rw e at t)

    none : T (not (some_below n (bit x))) → x ≡ 0
    none t = bits-same n x 0 h (omega arith) (λ i l. (λ u. absurd (T_not (some_below n (bit x)) t (some_in (bit x) n i l u)), λ u. absurd (no-bit i u)))

-- ---- rows joined: x, and M j for each j below k of the set S; one position more

module _ (S M : ℕ → Bool) (x : Bool) where
  abbrev pub joined : ℕ → Bool
  joined k = x || some_below k (λ j. S j && M j)

  pub joined-none : x ≡ joined 0
  joined-none = rw (some-none (λ j. S j && M j)) (sym (or-false x))

  -- with the row of k, if it is in the set
  pub joined-next : (k : ℕ) (h g : Bool) → h ≡ joined k → g ≡ (h || (S k && M k)) → g ≡ joined (k + 1)
  joined-next k h g e f = f ∙ rw (some_more (λ j. S j && M j) k, e) (or_assoc x (some_below k (λ j. S j && M j)) (S k && M k))

-- ---- the positions below k that pass, as a set: one position more

module _ (p : ℕ → Bool) (i : ℕ) where
  -- the positions below k that pass
  abbrev pub up_to : ℕ → Bool
  up_to k = ltb i k && p i

  pub up_to-none : up_to 0 ≡ false
  up_to-none = rw (le-ltb i 0 (omega arith))

  up_to-more : (k : ℕ) → up_to (k + 1) ≡ (up_to k || (p k && eqb i k))
  up_to-more k = ⊎_elim (λ le. ⊎_elim past (λ lt. here (omega arith)) (le-or-gt (k + 1) i)) below (le-or-gt k i)
    where
      below : i < k → up_to (k + 1) ≡ (up_to k || (p k && eqb i k))
      below l = rw (lt-ltb i k l, lt-ltb i (k + 1) (omega arith), ne_eqb i k (λ e. omega arith), and-false (p k)) (sym (or-false (p i)))

      here : i ≡ k → up_to (k + 1) ≡ (up_to k || (p k && eqb i k))
      here e = rw (e, lt-ltb k (k + 1) (omega arith), le-ltb k k (omega arith), eq-eqb k k refl) (sym (and-true (p k)))

      past : k + 1 ≤ i → up_to (k + 1) ≡ (up_to k || (p k && eqb i k))
      past l = rw (le-ltb i k (omega arith), le-ltb i (k + 1) l, ne_eqb i k (λ e. omega arith)) (sym (and-false (p k)))

  pub up_to-yes : (k : ℕ) (h : Bool) → h ≡ up_to k → p k ≡ true → (h || eqb i k) ≡ up_to (k + 1)
  up_to-yes k h e t = rw (up_to-more k, t, e)

  pub up_to-no : (k : ℕ) (h : Bool) → h ≡ up_to k → p k ≡ false → h ≡ up_to (k + 1)
  up_to-no k h e t = rw (up_to-more k, t, or-false (up_to k)) e

-- ---- a table: what each row below k has, after one store more

pub stored : (P : ℕ → ℕ → Type 0) (xs : List ℕ) (k v : ℕ) → k < length xs → ((j : ℕ) → j < k → P j (get_or xs j 0)) → P k v
    → (j : ℕ) → j < k + 1 → P j (get_or (set xs k v) j 0)
stored P xs k v h below here j l = ⊎_elim old new (below_split k j l)
  where
    old : j < k → P j (get_or (set xs k v) j 0)
    old lt = rw (get_or-set_other xs k j v 0 (λ e. omega arith)) (below j lt)

    new : j ≡ k → P j (get_or (set xs k v) j 0)
    new e = rw (e, get_or-set_same xs k v 0 h) here
