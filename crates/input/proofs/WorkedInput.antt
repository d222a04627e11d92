-- What the definitions come to: words written low byte first are read back, and worked input and lines.
use mathlib.Core.Path.{◌≡◌, refl}
use Prim.Native.Nat.{ℕ, ◌+◌, ◌*◌, ◌/◌, ◌%◌}
use native.Mathlib.Omega.{arith}
use mathlib.Core.List.{List, [], ◌∷◌, ◌++◌}
use Rattle.sheets.specs.Words.{word}
use Rattle.sheets.specs.Machine.{q1}
use Rattle.sheets.specs.Worked.{M1, M2}
use Rattle.input.specs.Bytes.{words_of, bytes_of}
use Rattle.input.specs.Cut.{first_end, first_sheet, second_sheet}
use Rattle.std.specs.Fmt.{digits}
use Rattle.input.specs.Lines.{refused_line}

-- end result
pub read_back : (words : List ℕ) → words_of (bytes_of words) ≡ words
unfolding bytes_of words_of
read_back [] = refl
read_back (w ∷ ws) =
    let e : w % 256 + 256 * (w / 256) ≡ w = omega arith in
    rw (e, read_back ws)

pub record InputCases : Type 0 where
  pub case-a-first : first_sheet (words_of (bytes_of (M1 ++ M2))) ≡ M1
  pub case-a-second : second_sheet (words_of (bytes_of (M1 ++ M2))) ≡ M2
  -- `refused 5 1`, and `refused 22 0`
  pub five : refused_line 5 1 ≡ 114 ∷ 101 ∷ 102 ∷ 117 ∷ 115 ∷ 101 ∷ 100 ∷ 32 ∷ 53 ∷ 32 ∷ 49 ∷ 10 ∷ []
  pub two : refused_line 22 0 ≡ 114 ∷ 101 ∷ 102 ∷ 117 ∷ 115 ∷ 101 ∷ 100 ∷ 32 ∷ 50 ∷ 50 ∷ 32 ∷ 48 ∷ 10 ∷ []

pub input-cases : InputCases
unfolding refused_line digits bytes_of words_of first_sheet second_sheet first_end q1 word
input-cases = record { case-a-first = refl; case-a-second = refl; five = refl; two = refl }
