-- Two words are the same exactly where they are equal as lists: the answer of `==`.
use mathlib.Core.Path.{◌≡◌, refl, sym}
use Prim.Native.Nat.{ℕ}
use mathlib.Core.List.{List, [], ◌∷◌}
use mathlib.Core.Bool.{Bool, true, false, true≢false}
use lib.Dec.{T, eqb, eqb→eq, eqb_refl}
use Rattle.sheets.proofs.Tests.{passed, and_left, and_right}
use Rattle.sheet.specs.Arguments.{same}

same_refl : (xs : List ℕ) → same xs xs ≡ true
unfolding same
same_refl [] = refl
same_refl (x ∷ xs) = rw (passed (eqb x x) (eqb_refl x), same_refl xs)

same-equal : (xs ys : List ℕ) → T (same xs ys) → xs ≡ ys
unfolding same
same-equal [] [] t = refl
same-equal [] (y ∷ ys) t = absurd t
same-equal (x ∷ xs) [] t = absurd t
same-equal (x ∷ xs) (y ∷ ys) t =
    let head = eqb→eq x y (and_left (eqb x y) (same xs ys) t) in
    let rest = same-equal xs ys (and_right (eqb x y) (same xs ys) t) in
    rw (head, rest)

pub is_same : (xs ys : List ℕ) (r : Bool) → (r ≡ true → xs ≡ ys) × (xs ≡ ys → r ≡ true) → same xs ys ≡ r
is_same xs ys true h = rw (h.0 refl) (same_refl ys)
is_same xs ys false h = other (same xs ys) (λ t. true≢false (sym (h.1 (same-equal xs ys t))))
  where
    other : (b : Bool) → (T b → ⊥) → b ≡ false
    other true n = absurd (n tt)
    other false n = refl
