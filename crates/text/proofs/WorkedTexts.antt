-- What the definitions come to: worked texts with each kind of fault, and worked layouts.
use mathlib.Core.Path.{◌≡◌, refl}
use Prim.Native.Nat.{ℕ}
use mathlib.Core.List.{[], ◌∷◌}
use Rattle.text.specs.Texts.{words, fault, with_word, sort_of, uncommented, reading, reading_of}
use Rattle.std.specs.Fmt.{digits}
use Rattle.text.specs.Layout.{text_from, text_of}
use Rattle.text.specs.declared.read.Place.{Place}
use Rattle.text.specs.declared.read.Kind.TheVariants.{NotDecimal, Above, NoRoom}

abbrev place : ℕ → ℕ → Place
place line column = record { line = line; column = column }

pub record TextCases : Type 0 where
  -- `7 08 # 9\n65535`, with room for 3
  pub numbers : reading_of 3 (55 ∷ 32 ∷ 48 ∷ 56 ∷ 32 ∷ 35 ∷ 32 ∷ 57 ∷ 10 ∷ 54 ∷ 53 ∷ 53 ∷ 51 ∷ 53 ∷ []) ≡ words (7 ∷ 8 ∷ 65535 ∷ [])
  -- `1#2\n`, with room for 1
  pub touching : reading_of 1 (49 ∷ 35 ∷ 50 ∷ 10 ∷ []) ≡ words (1 ∷ [])
  -- `1\n 2x`, with room for 9
  pub no_digit : reading_of 9 (49 ∷ 10 ∷ 32 ∷ 50 ∷ 120 ∷ []) ≡ fault NotDecimal (place 2 3)
  -- `0 65536`, with room for 9
  pub above : reading_of 9 (48 ∷ 32 ∷ 54 ∷ 53 ∷ 53 ∷ 51 ∷ 54 ∷ []) ≡ fault Above (place 1 3)
  -- `99999x`, with room for 9
  pub above-first : reading_of 9 (57 ∷ 57 ∷ 57 ∷ 57 ∷ 57 ∷ 120 ∷ []) ≡ fault Above (place 1 1)
  -- `1 22`, with room for 1
  pub no_room : reading_of 1 (49 ∷ 32 ∷ 50 ∷ 50 ∷ []) ≡ fault NoRoom (place 1 3)
  -- `7 0 65535` and a newline
  pub written : text_of (7 ∷ 0 ∷ 65535 ∷ []) ≡ 55 ∷ 32 ∷ 48 ∷ 32 ∷ 54 ∷ 53 ∷ 53 ∷ 51 ∷ 53 ∷ 10 ∷ []
  -- eleven words, the last on a second line
  pub two-lines : text_of (1 ∷ 1 ∷ 1 ∷ 1 ∷ 1 ∷ 1 ∷ 1 ∷ 1 ∷ 1 ∷ 1 ∷ 1 ∷ []) ≡ 49 ∷ 32 ∷ 49 ∷ 32 ∷ 49 ∷ 32 ∷ 49 ∷ 32 ∷ 49 ∷ 32 ∷ 49 ∷ 32 ∷ 49 ∷ 32 ∷ 49 ∷ 32 ∷ 49 ∷ 32 ∷ 49 ∷ 10 ∷ 49 ∷ 10 ∷ []

pub text-cases : TextCases
unfolding reading_of reading uncommented sort_of with_word text_of text_from digits
text-cases = record {
  numbers = refl;
  touching = refl;
  no_digit = refl;
  above = refl;
  above-first = refl;
  no_room = refl;
  written = refl;
  two-lines = refl;
}
