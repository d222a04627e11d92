-- The bytes of standard input. Document 01: "The comparing program reads two machine sheets from standard input, low byte first,
-- at most 20,000 bytes". Each program has its own number of bytes (`Limits`).
use Rattle.std.specs.Prelude.{ℕ, ◌+◌, ◌*◌, ◌/◌, ◌%◌, List, [], ◌∷◌, Bool, ◌&&◌, leb, eqb}

-- a number of bytes that is taken, of which there are so many at most: "`refused 0 0` for an odd byte count or more than 20,000 bytes"
abbrev pub readable : ℕ → ℕ → Bool
readable most count = leb count most && eqb (count % 2) 0

-- "low byte first"
abbrev pub word_of : ℕ → ℕ → ℕ
word_of low high = low + 256 * high

-- the words of the bytes; a last byte without its other half, which no readable count has, makes none
unfoldable pub words_of : List ℕ → List ℕ
words_of [] = []
words_of (low ∷ []) = []
words_of (low ∷ high ∷ bytes) = word_of low high ∷ words_of bytes

-- the bytes of words, low byte first
unfoldable pub bytes_of : List ℕ → List ℕ
bytes_of [] = []
bytes_of (w ∷ ws) = (w % 256) ∷ (w / 256) ∷ bytes_of ws
