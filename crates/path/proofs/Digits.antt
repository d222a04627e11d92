-- An argument read digit by digit: what is left behind i bytes, which make the number n.
use mathlib.Core.Path.{◌≡◌, refl, sym, ◌∙◌}
use Prim.Native.Nat.{ℕ, ◌+◌, ◌-◌, ◌*◌, ◌≤◌, ◌<◌}
use native.Mathlib.Numerals.{add-one}
use native.Mathlib.Omega.{arith}
use native.Mathlib.Decide.{dec_le}
use mathlib.Core.Logic.{by_cases}
use mathlib.Core.List.{List, [], ◌∷◌}
use lib.ListN.{length, get_or, drop, drop_of_length-le}
use lib.Seq.{drop-cons}
use borrow.Author.Tests.{le-leb, lt-leb}
use Rattle.std.specs.Prelude.{Some, None}
use Rattle.path.specs.Arguments.{digits_behind, argument_of}

pub no_digit : (bytes : List ℕ) → length bytes ≡ 0 → None ≡ argument_of bytes
unfolding argument_of
no_digit [] e = refl
no_digit (b ∷ bytes) e = absurd (omega arith)

pub begins : (bytes : List ℕ) → (length bytes ≡ 0 → ⊥) → argument_of bytes ≡ digits_behind 0 bytes
unfolding argument_of
begins [] some = absurd (some refl)
begins (b ∷ bytes) some = refl

module _ (bytes : List ℕ) (n i : ℕ) (whole : argument_of bytes ≡ digits_behind n (drop i bytes)) where
  pub all_read : length bytes ≤ i → Some n ≡ argument_of bytes
  unfolding digits_behind
  all_read end = sym (whole ∙ rw (drop_of_length-le bytes end))

  module _ (here : i < length bytes) where
    abbrev b : ℕ
    b = get_or bytes i 0

    next : argument_of bytes ≡ digits_behind n (b ∷ drop (i + 1) bytes)
    next = whole ∙ rw (add-one, drop-cons bytes i 0)

    too-low : b < 48 → None ≡ argument_of bytes
    unfolding digits_behind
    too-low low = sym (next ∙ rw (lt-leb 48 b low))

    too-high : 48 ≤ b → 57 < b → None ≡ argument_of bytes
    unfolding digits_behind
    too-high low high = sym (next ∙ rw (le-leb 48 b low, lt-leb b 57 high))

    pub no_digit_there : ((48 ≤ b) × (b ≤ 57) → ⊥) → None ≡ argument_of bytes
    no_digit_there other =
        by_cases (dec_le 48 b)
        (λ low. by_cases (dec_le b 57) (λ high. absurd (other (low, high))) (λ high. too-high low (omega arith)))
        (λ low. too-low (omega arith))

    module _ (digit : (48 ≤ b) × (b ≤ 57)) where
      pub too_large : 65536 ≤ n * 10 + (b - 48) → None ≡ argument_of bytes
      unfolding digits_behind
      too_large large =
          let above : 65535 < 10 * n + (b - 48) = omega arith in
          sym (next ∙ rw (le-leb 48 b digit.0, le-leb b 57 digit.1, lt-leb (10 * n + (b - 48)) 65535 above))

      pub one_more : (value : ℕ) → value ≡ n * 10 + (b - 48) → value < 65536 → argument_of bytes ≡ digits_behind value (drop (i + 1) bytes)
      unfolding digits_behind
      one_more value e small =
          let same : value ≡ 10 * n + (b - 48) = omega arith in
          rw same (next ∙ rw (le-leb 48 b digit.0, le-leb b 57 digit.1, le-leb (10 * n + (b - 48)) 65535 (omega arith)))
