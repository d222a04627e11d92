-- What a text of decimal words means. A text is bytes. Blanks are space, tab, carriage return and newline; `#` starts a comment up to the
-- end of its line; everything else must be decimal numbers, 0 to 65,535, leading zeros allowed, separated by blanks or comments. The
-- reading of a text is the list of its words, or the first fault: its line and column, both from 1, and what is wrong there.
use Rattle.std.specs.Prelude.{ℕ, zero, suc, Result, Ok, Err, ◌+◌, ◌-◌, ◌*◌, List, [], ◌∷◌, ◌++◌, Bool, true, false, not, cond, ◌&&◌, ◌||◌, length, drop, leb, eqb}
use Rattle.text.specs.declared.read.Place.{Place}
use Rattle.text.specs.declared.read.Kind.{Kind}
use Rattle.text.specs.declared.read.Kind.TheVariants.{NotDecimal, Above, NoRoom}
use Rattle.text.specs.declared.read.Fault.{Fault}
use Rattle.text.specs.declared.reader.Sort.{Sort}
use Rattle.text.specs.declared.reader.Sort.TheVariants.{Blank, Digit, Other}

-- "blanks are space, tab, carriage return and newline"
abbrev pub blank : ℕ → Bool
blank b = eqb b 32 || eqb b 9 || eqb b 13 || eqb b 10

-- what a byte is between comments; the digits are 48 to 57 in ASCII
unfoldable pub sort_of : ℕ → Sort
sort_of b = cond (blank b) Blank (cond (leb 48 b && leb b 57) (Digit (b - 48)) Other)

-- "`#` starts a comment up to the end of its line": whether a byte belongs to a comment, given whether the byte before it does
abbrev pub commented : Bool → ℕ → Bool
commented inside b = not (eqb b 10) && (inside || eqb b 35)

-- a text with a space in place of each byte of a comment
unfoldable pub uncommented : Bool → List ℕ → List ℕ
uncommented inside [] = []
uncommented inside (b ∷ text) = cond (commented inside b) 32 b ∷ uncommented (commented inside b) text

-- the place of the byte after a byte; columns count bytes
abbrev pub next : Place → ℕ → Place
next at b = cond (eqb b 10) (record { line = at.line + 1; column = 1 }) (record { line = at.line; column = at.column + 1 })

-- what a text is read as
pub data Read : Type 0 where
  words : List ℕ → Read
  fault : Kind → Place → Read

-- what is read with a word before it
unfoldable pub with_word : ℕ → Read → Read
with_word w (words ws) = words (w ∷ ws)
with_word w (fault kind at) = fault kind at

-- what stands before a byte: a gap, or the digits of a number, with the place of the first and the number that they make
pub data Before : Type 0 where
  gap : Before
  number : Place → ℕ → Before

-- The reading of a text without comments, with room for so many words, from a place on. After a gap a blank keeps the gap, and a digit
-- begins a number if there is room for it. After digits a blank ends the number, and a digit makes it longer unless it is then above
-- 65,535, a fault at its first digit.
unfoldable pub reading : List ℕ → Before → ℕ → Place → Read
reading [] gap room at = words []
reading [] (number from n) room at = words (n ∷ [])
reading (b ∷ text) gap room at =
    elim (sort_of b) [
      | Blank ↦ reading text gap room (next at b)
      | Digit d ↦ elim room [ zero ↦ fault NoRoom at | suc left ↦ reading text (number at d) left (next at b) ]
      | Other ↦ fault NotDecimal at
    ]
reading (b ∷ text) (number from n) room at =
    elim (sort_of b) [
      | Blank ↦ with_word n (reading text gap room (next at b))
      | Digit d ↦ elim (leb (10 * n + d) 65535) [
        | true ↦ reading text (number from (10 * n + d)) room (next at b)
        | false ↦ fault Above from
      ]
      | Other ↦ fault NotDecimal at
    ]

-- the reading of a text, with room for so many words
unfoldable pub reading_of : ℕ → List ℕ → Read
reading_of room text = reading (uncommented false text) gap room (record { line = 1; column = 1 })

-- the answer to a text: how many words it has, or its first fault
unfoldable pub answer_of : Read → Result ℕ Fault
answer_of (words ws) = Ok (length ws)
answer_of (fault kind at) = Err (record { kind = kind; at = at })

-- the lent words after it: the text's words at their head, or all as they were
unfoldable pub left_of : Read → List ℕ → List ℕ
left_of (words ws) lent = ws ++ drop (length ws) lent
left_of (fault kind at) lent = lent
