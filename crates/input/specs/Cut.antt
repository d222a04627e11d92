-- Where the first sheet ends. Document 01: "the first sheet's header gives its end, if question 1 says yes and the words reach that
-- far, else all words are the first sheet and the second is empty".
use Rattle.std.specs.Prelude.{◌≡◌, ℕ, ◌-◌, ◌*◌, ◌≤◌, List, Result, Ok, Err, true, false, cond, ◌&&◌, length, take, drop, leb}
use Rattle.sheets.specs.Format.{machine_length}
use Rattle.sheets.specs.Machine.{nodes, edges, q1}
use Rattle.input.specs.Bytes.{readable, words_of}
use Rattle.input.specs.declared.cut.Cut.{Cut}
use Rattle.input.specs.declared.cut.Unreadable.{Unreadable}

-- "the first sheet's header gives its end": the length that question 2 asks for
abbrev pub header_end : List ℕ → ℕ
header_end words = machine_length (nodes words) (edges words)

-- "if question 1 says yes and the words reach that far, else all words are the first sheet"
unfoldable pub first_end : List ℕ → ℕ
unfolding q1
first_end words = cond (q1 words && leb (header_end words) (length words)) (header_end words) (length words)

-- the two sheets
unfoldable pub first_sheet : List ℕ → List ℕ
unfolding first_end
first_sheet words = take (first_end words) words

unfoldable pub second_sheet : List ℕ → List ℕ
unfolding first_end
second_sheet words = drop (first_end words) words

-- ---- the two sheets in lent words

-- what a cut says lies in the words
pub record Inside (words : List ℕ) (cut : Cut) : Type 0 where
  pub ordered : cut.end ≤ cut.count
  pub within : cut.count ≤ length words

-- the words of the first sheet, of the second, and all of them
abbrev pub first_in : List ℕ → Cut → List ℕ
first_in words cut = take cut.end words

abbrev pub second_in : List ℕ → Cut → List ℕ
second_in words cut = take (cut.count - cut.end) (drop cut.end words)

abbrev pub whole_in : List ℕ → Cut → List ℕ
whole_in words cut = take cut.count words

-- the words of the bytes, cut where the first sheet ends; the words behind are as before
pub record IsCut (bytes before after : List ℕ) (cut : Cut) : Type 0 where
  pub inside : Inside after cut
  pub behind : drop cut.count after ≡ drop cut.count before
  pub whole : whole_in after cut ≡ words_of bytes
  pub end : cut.end ≡ first_end (words_of bytes)

-- The bytes of standard input as two sheets at the head of lent words. An odd number of bytes, or more than two for each word, is refused,
-- and then every word is as before.
pub record TwoSheets (bytes before after : List ℕ) (result : Result Cut Unreadable) : Type 0 where
  pub refused : (e : Unreadable) → result ≡ Err e → (readable (2 * length before) (length bytes) ≡ false) × (after ≡ before)
  pub taken : (cut : Cut) → result ≡ Ok cut → (readable (2 * length before) (length bytes) ≡ true) × IsCut bytes before after cut
