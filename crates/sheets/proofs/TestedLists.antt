-- Tests of the elements of a list and of the positions below a number: at least one more, a condition that is the same of each, two tests of each.
use mathlib.Core.Path.{◌≡◌, refl, sym, ◌∙◌, ap}
use Prim.Native.Nat.{ℕ, zero, suc, ◌+◌, ◌^◌, ◌<◌}
use native.Mathlib.Omega.{arith}
use mathlib.Core.List.{List, [], ◌∷◌}
use mathlib.Core.Bool.{Bool, true, false, ◌&&◌, ◌||◌, and-true, and-false, or-false}
use borrow.Author.Tests.{le-leb}
use lib.Bits.{bit_or, or_lt, or_add_and, and_le_l, and_le_r}
use lib.Dec.{leb, ltb, ltb→lt, lt→ltb}
use Rattle.sheets.specs.Words.{indicator, all_of, any_of}
use Rattle.sheets.specs.inner.Positions.{some_below}
use Rattle.sheets.proofs.Tests.{and_left, and_right, and_both}
use Rattle.sheets.proofs.Positions.{same_tests}

-- ---- tests of a list, and of positions

pub or-below : (k a b : ℕ) → ltb (bit_or a b) (2 ^ k) ≡ (ltb a (2 ^ k) && ltb b (2 ^ k))
or-below k a b =
    same_tests (ltb (bit_or a b) (2 ^ k)) (ltb a (2 ^ k) && ltb b (2 ^ k))
    (λ t. let h = ltb→lt (bit_or a b) (2 ^ k) t in
    and_both (ltb a (2 ^ k)) (ltb b (2 ^ k)) (lt→ltb a (2 ^ k) (omega (arith, or_add_and a b, and_le_r a b))) (lt→ltb b (2 ^ k) (omega (arith, or_add_and a b, and_le_l a b))))
    (λ t. lt→ltb (bit_or a b) (2 ^ k) (or_lt k a b (ltb→lt a (2 ^ k) (and_left (ltb a (2 ^ k)) (ltb b (2 ^ k)) t)) (ltb→lt b (2 ^ k) (and_right (ltb a (2 ^ k)) (ltb b (2 ^ k)) t))))

pub pow_pos : (k : ℕ) → 0 < 2 ^ k
pow_pos zero = omega arith
pow_pos (suc k) = omega (arith, pow_pos k)

-- at least one, and at least two, where one more may be counted
pub one_more : (n : ℕ) (b : Bool) → (leb 1 n || b) ≡ leb 1 (n + indicator b)
unfolding indicator
one_more n false = let e : n + 0 ≡ n = omega arith in rw e (or-false (leb 1 n))
one_more zero true = refl
one_more (suc n) true = rw (le-leb 1 (suc n) (omega arith), le-leb 1 (suc n + 1) (omega arith))

pub two-more : (n : ℕ) (b : Bool) → (leb 2 n || (leb 1 n && b)) ≡ leb 2 (n + indicator b)
unfolding indicator
two-more n false = let e : n + 0 ≡ n = omega arith in rw (e, and-false (leb 1 n)) (or-false (leb 2 n))
two-more zero true = refl
two-more (suc zero) true = refl
two-more (suc (suc n)) true = rw (le-leb 2 (suc (suc n)) (omega arith), le-leb 2 (suc (suc n) + 1) (omega arith))

pub any_none : (ys : List ℕ) (p : ℕ → Bool) → ((y : ℕ) → p y ≡ false) → any_of ys p ≡ false
unfolding any_of
any_none [] p h = refl
any_none (y ∷ ys) p h = rw (h y) (any_none ys p h)

pub some-false : (n : ℕ) (p : ℕ → Bool) → ((k : ℕ) → p k ≡ false) → some_below n p ≡ false
unfolding some_below
some-false zero p h = refl
some-false (suc n) p h = rw (some-false n p h) (h n)

-- a condition that is the same of each element
pub any-guarded : (g : Bool) (p q : ℕ → Bool) (ys : List ℕ) → any_of ys (λ y. p y && (g && q y)) ≡ (g && any_of ys (λ y. p y && q y))
any-guarded true p q ys = refl
any-guarded false p q ys = any_none ys (λ y. p y && false) (λ y. and-false (p y))

exchange : (p q a b : Bool) → ((q && b) && (p && a)) ≡ ((p && q) && (a && b))
exchange false false a b = refl
exchange false true a b = and-false b
exchange true false a b = refl
exchange true true false b = and-false b
exchange true true true b = and-true b

-- two tests of each element
pub all_both : (p q r : ℕ → Bool) → ((y : ℕ) → q y ≡ r y) → (ys : List ℕ) → (all_of ys q && all_of ys p) ≡ all_of ys (λ y. p y && r y)
unfolding all_of
all_both p q r h [] = refl
all_both p q r h (y ∷ ys) = exchange (p y) (q y) (all_of ys p) (all_of ys q) ∙ rw (h y) (ap (λ z. (p y && r y) && z) (swap (all_of ys p) (all_of ys q) ∙ all_both p q r h ys))
  where
    swap : (a b : Bool) → (a && b) ≡ (b && a)
    swap true b = sym (and-true b)
    swap false b = sym (and-false b)
