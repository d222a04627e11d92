-- `(1..=n).all(..)` and `(1..=n).any(..)` over the numbers of records, and `(0..n).all(..)` and `(0..n).any(..)` over positions: what
-- they answer, where the closure answers a test of the number and is as it was after the call. Each law concludes an answer of the call,
-- and takes its clause `ran`.
use mathlib.Core.Path.{◌≡◌, refl, ap, ◌∙◌}
use Prim.Native.Nat.{ℕ, zero, suc, ◌+◌, ◌-◌, ◌<◌, ◌≤◌}
use native.Mathlib.Omega.{arith}
use native.Mathlib.Numerals.{add-one}
use mathlib.Core.Bool.{Bool, true, false, not, ◌&&◌, ◌||◌}
use mathlib.Core.List.{List, [], ◌∷◌}
use denote.Param.Members.{Mut}
use Rattle.std.specs.declared.ops.Range.{Range}
use Rattle.std.specs.declared.ops.RangeInclusive.{RangeInclusive}
use Rattle.std.specs.declared.option.Option.{Option}
use Rattle.std.specs.Iterator.{AlwaysYields, CallableAtEachTurn, ChecksAll, ChecksAny}
use Rattle.std.specs.Range.{range_inclusive_start, range_inclusive_end, range_inclusive_exhausted, range_inclusive_len, range_inclusive_left, range_inclusive_steps, range_steps}
use Rattle.std.specs.List.{range_with_len, list_all, list_any}
use Rattle.std.specs.Fn.{Called}
use Rattle.std.proofs.lemmas.Iterator.{YieldsList, YieldsList-from_range}
use Rattle.std.proofs.lemmas.Iterator.Adapters.{serves_from_places}
use Rattle.std.proofs.lemmas.List.FromFn.{length-range_with_len, get_or-range_with_len}
use Rattle.std.proofs.lemmas.Iterator.Search.{all_from_yields_List, any_from_yields_List}
use Rattle.sheets.specs.Words.{each, all_of}
use Rattle.sheets.specs.inner.Positions.{some_below}

-- ---- a test of the numbers from a on, one more of them

and-more : (a b c : Bool) → (a && (b && c)) ≡ ((a && b) && c)
and-more true b c = refl
and-more false b c = refl

or-more : (a b c : Bool) → (a || (b || c)) ≡ ((a || b) || c)
or-more true b c = refl
or-more false b c = refl

and_true : (a : Bool) → (a && true) ≡ a
and_true true = refl
and_true false = refl

or_false : (a : Bool) → (a || false) ≡ a
or_false true = refl
or_false false = refl

not-and : (a b : Bool) → (not a || not b) ≡ not (a && b)
not-and true b = refl
not-and false b = refl

module _ (p : ℕ → Bool) where
  all-more : (a n k : ℕ) → a + n ≡ k → list_all p (range_with_len a (suc n)) ≡ (list_all p (range_with_len a n) && p k)
  all-more a zero k e = and_true (p a) ∙ ap p (omega arith)
  all-more a (suc n) k e = ap (λ t. p a && t) (all-more (a + 1) n k (omega arith)) ∙ and-more (p a) _ _

  any-more : (a n k : ℕ) → a + n ≡ k → list_any p (range_with_len a (suc n)) ≡ (list_any p (range_with_len a n) || p k)
  any-more a zero k e = or_false (p a) ∙ ap p (omega arith)
  any-more a (suc n) k e = ap (λ t. p a || t) (any-more (a + 1) n k (omega arith)) ∙ or-more (p a) _ _

-- the numbers from a on, tested by p, as the numbers from 1 on, tested by q
module _ (p q : ℕ → Bool) (a : ℕ) (same : (i : ℕ) → p (a + i) ≡ q (i + 1)) where
  all-each : (n : ℕ) → list_all p (range_with_len a n) ≡ each n q
  unfolding each
  all-each zero = refl
  all-each (suc n) = all-more p a n (a + n) refl ∙ ap (λ t. t && p (a + n)) (all-each n) ∙ ap (λ t. each n q && t) (same n ∙ ap q (add-one n))

module _ (p : ℕ → Bool) where
  any_some : (n : ℕ) → list_any p (range_with_len 0 n) ≡ some_below n p
  unfolding some_below
  any_some zero = refl
  any_some (suc n) = any-more p 0 n n (omega arith) ∙ ap (λ t. t || p n) (any_some n)

  any-each : (n : ℕ) → list_any (λ x. not (p x)) (range_with_len 1 n) ≡ not (each n p)
  unfolding each
  any-each zero = refl
  any-each (suc n) = any-more (λ x. not (p x)) 1 n (suc n) (omega arith) ∙ ap (λ t. t || not (p (suc n))) (any-each n) ∙ not-and (each n p) (p (suc n))

  any-next : (n : ℕ) → list_any (λ x. not (p (x + 1))) (range_with_len 0 n) ≡ not (each n p)
  unfolding each
  any-next zero = refl
  any-next (suc n) =
      any-more (λ x. not (p (x + 1))) 0 n n (omega arith) ∙ ap (λ t. t || not (p (n + 1))) (any-next n)
      ∙ ap (λ k. not (each n p) || not (p k)) (add-one n) ∙ not-and (each n p) (p (suc n))

-- ---- `a..=b` gives the numbers from a to b

-- the next number
abbrev follows : ℕ → ℕ → Type 0
follows x y = y ≡ x + 1

abbrev gap : ℕ → ℕ → ℕ
gap x y = y - x

abbrev pub inclusive_steps : RangeInclusive ℕ → Option ℕ → RangeInclusive ℕ → Type 0
inclusive_steps = range_inclusive_steps gap follows

abbrev left : RangeInclusive ℕ → ℕ
left = range_inclusive_left gap

spent : (s : RangeInclusive ℕ) → range_inclusive_exhausted s ≡ true → left s ≡ 0
spent s z = ap (range_inclusive_len gap (range_inclusive_start s) (range_inclusive_end s)) z

-- where some are left, the range is not spent
unspent : (s : RangeInclusive ℕ) (b : Bool) → range_inclusive_exhausted s ≡ b → 1 ≤ left s → range_inclusive_exhausted s ≡ false
unspent s true z l = absurd (omega (arith, spent s z))
unspent s false z l = z

-- n numbers are left, from a on
gives : (a n : ℕ) (s : RangeInclusive ℕ) → left s ≡ n → (1 ≤ n → range_inclusive_start s ≡ a) → AlwaysYields inclusive_steps (λ x. x) s (range_with_len a n)
gives a zero s e h = λ x t d. omega (arith, d.1.1)
gives a (suc n) s e h = (
  (λ t d. omega (arith, d.1.0)),
  λ x t d. (d.1.0 ∙ h (omega arith), gives (a + 1) n t (omega (arith, d.1.1)) (λ l. d.1.2 (unspent t _ refl (omega (arith, d.1.1))) ∙ ap (λ k. k + 1) (h (omega arith)))),
)

fresh-left : {s : RangeInclusive ℕ} {a b n : ℕ} → b + 1 ≡ a + n → range_inclusive_start s ≡ a → range_inclusive_end s ≡ b → range_inclusive_exhausted s ≡ false → left s ≡ n
fresh-left {s} l d e z = omega (arith, ap (range_inclusive_len gap (range_inclusive_start s) (range_inclusive_end s)) z)

pub gives-fresh : {s : RangeInclusive ℕ} {a b : ℕ} (n : ℕ) → b + 1 ≡ a + n → range_inclusive_start s ≡ a → range_inclusive_end s ≡ b → range_inclusive_exhausted s ≡ false
    → YieldsList inclusive_steps (λ x. x) s (range_with_len a n)
gives-fresh {s} {a} n l d e z = record { runs = gives a n s (fresh-left l d e z) (λ m. d) }

-- ---- the calls

-- over `a..=b`, and over `1..=n`
module _ {s u : RangeInclusive ℕ} {F : Type 0} {g : Mut F (ℕ × Unit {0}) Bool} {f : F} {r : Bool} where
  pub all_through : (a b n : ℕ) (p q : ℕ → Bool) → b + 1 ≡ a + n → ((i : ℕ) → p (a + i) ≡ q (i + 1)) → ChecksAll inclusive_steps g s f r u → range_inclusive_start s ≡ a
      → range_inclusive_end s ≡ b → range_inclusive_exhausted s ≡ false → ((x : ℕ) (b : Bool) (q : F) → Called g f (x, tt) b q → (q ≡ f) × (b ≡ p x)) → r ≡ each n q
  all_through a b n p q l same ran d e z k = all_from_yields_List p u f r ran (gives-fresh n l d e z) k ∙ all-each p q a same n

  module _ (n : ℕ) (p : ℕ → Bool) where
    pub all_records : ChecksAll inclusive_steps g s f r u → range_inclusive_start s ≡ 1 → range_inclusive_end s ≡ n → range_inclusive_exhausted s ≡ false
        → ((x : ℕ) (b : Bool) (q : F) → Called g f (x, tt) b q → (q ≡ f) × (b ≡ p x)) → r ≡ each n p
    all_records = all_through 1 n n p p (omega arith) (λ i. ap p (omega arith))

    pub any_record : ChecksAny inclusive_steps g s f r u → range_inclusive_start s ≡ 1 → range_inclusive_end s ≡ n → range_inclusive_exhausted s ≡ false
        → ((x : ℕ) (b : Bool) (q : F) → Called g f (x, tt) b q → (q ≡ f) × (b ≡ not (p x))) → r ≡ not (each n p)
    any_record ran d e z k = any_from_yields_List (λ x. not (p x)) u f r ran (gives-fresh n (omega arith) d e z) k ∙ any-each p n

-- over `1..=n`, where the closure asks for a number from 1 to n
pub serves_records : {s : RangeInclusive ℕ} {F : Type 0} {R : F → ℕ → F → Type 0} {Q : F → ℕ → Type 0} {f : F} (n : ℕ) → range_inclusive_start s ≡ 1 → range_inclusive_end s ≡ n
    → range_inclusive_exhausted s ≡ false → ((x : ℕ) (q : F) → R f x q → q ≡ f) → ((x : ℕ) → 1 ≤ x → x ≤ n → Q f x) → CallableAtEachTurn inclusive_steps R Q s f
serves_records n d e z stays k =
    serves_from_places (gives-fresh n (omega arith) d e z) stays
    (λ x i l at. let i<n : i < n = omega (arith, l, length-range_with_len 1 n) in let is : x ≡ 1 + i = at ∙ get_or-range_with_len 1 n i x i<n in k x (omega arith) (omega arith))

-- over `a..b`
pub all_between : {u : Range ℕ} {F : Type 0} {g : Mut F (ℕ × Unit {0}) Bool} {f : F} {r : Bool} (a b : ℕ) (p q : ℕ → Bool) → ((i : ℕ) → p (a + i) ≡ q (i + 1))
    → ChecksAll (range_steps gap follows) g (record { start = a; end = b }) f r u → ((x : ℕ) (b : Bool) (q : F) → Called g f (x, tt) b q → (q ≡ f) × (b ≡ p x)) → r ≡ each (b - a) q
all_between {u} {f = f} {r = r} a b p q same ran k = all_from_yields_List p u f r ran (YieldsList-from_range a b (b - a) refl refl) k ∙ all-each p q a same (b - a)

-- over `0..n`: the numbers 1 to n, where the closure tests the next number, and positions
module _ {u : Range ℕ} {F : Type 0} {g : Mut F (ℕ × Unit {0}) Bool} {f : F} {r : Bool} (n : ℕ) (p : ℕ → Bool) where
  pub all_next : ChecksAll (range_steps gap follows) g (record { start = 0; end = n }) f r u → ((x : ℕ) (b : Bool) (q : F) → Called g f (x, tt) b q → (q ≡ f) × (b ≡ p (x + 1))) → r ≡ each n p
  all_next ran k = all_between 0 n (λ x. p (x + 1)) p (λ i. ap p (omega arith)) ran k ∙ ap (λ m. each m p) (omega arith)

  pub any_next : ChecksAny (range_steps gap follows) g (record { start = 0; end = n }) f r u → ((x : ℕ) (b : Bool) (q : F) → Called g f (x, tt) b q → (q ≡ f) × (b ≡ not (p (x + 1)))) → r ≡ not (each n p)
  any_next ran k = any_from_yields_List (λ x. not (p (x + 1))) u f r ran (YieldsList-from_range 0 n n refl (omega arith)) k ∙ any-next p n

  pub any_position : ChecksAny (range_steps gap follows) g (record { start = 0; end = n }) f r u → ((x : ℕ) (b : Bool) (q : F) → Called g f (x, tt) b q → (q ≡ f) × (b ≡ p x)) → r ≡ some_below n p
  any_position ran k = any_from_yields_List p u f r ran (YieldsList-from_range 0 n n refl (omega arith)) k ∙ any_some p n

-- over the elements of a list
pub all-elements : (p : ℕ → Bool) (xs : List ℕ) → list_all p xs ≡ all_of xs p
unfolding all_of
all-elements p [] = refl
all-elements p (x ∷ xs) = ap (λ t. p x && t) (all-elements p xs)

module _ {S A : Type 0} {steps : S → Option A → S → Type 0} {v : A → ℕ} {s : S} {F : Type 0} {g : Mut F (A × Unit {0}) Bool} {f : F} {r : Bool} (u : S) (xs : List ℕ) (p : ℕ → Bool) where
  pub all_elements : ChecksAll steps g s f r u → YieldsList steps v s xs → ((x : A) (b : Bool) (q : F) → Called g f (x, tt) b q → (q ≡ f) × (b ≡ p (v x))) → r ≡ all_of xs p
  all_elements ran road k = all_from_yields_List p u f r ran road k ∙ all-elements p xs
