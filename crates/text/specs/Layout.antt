-- The text that is written for a list of words: each in decimal and a blank after it, a newline after every tenth word and after the last,
-- a space after the others.
use Rattle.std.specs.Prelude.{ℕ, suc, ◌*◌, ◌%◌, List, [], ◌∷◌, ◌++◌, Option, Some, None, cond, ◌||◌, decimal, length, drop, leb, eqb}

-- the blank after a word, given its number, from 1, and how many words are left after it
abbrev pub ender_of : ℕ → ℕ → ℕ
ender_of number left = cond (eqb (number % 10) 0 || eqb left 0) 10 32

-- a word and a blank
abbrev pub word_text : ℕ → ℕ → List ℕ
word_text word blank = decimal word ++ (blank ∷ [])

-- the text of words, of which the first has this number
unfoldable pub text_from : ℕ → List ℕ → List ℕ
text_from number [] = []
text_from number (w ∷ ws) = word_text w (ender_of number (length ws)) ++ text_from (suc number) ws

unfoldable pub text_of : List ℕ → List ℕ
text_of ws = text_from 1 ws

-- the bytes that are asked for each word: five digits and a blank
abbrev pub word_bytes : ℕ
word_bytes = 6

-- the answer: the text's length where there are as many, else none
unfoldable pub written_of : List ℕ → List ℕ → Option ℕ
written_of ws lent = cond (leb (word_bytes * length ws) (length lent)) (Some (length (text_of ws))) None

-- the lent bytes after it: the text at their head, or all as they were
unfoldable pub text_left : List ℕ → List ℕ → List ℕ
text_left ws lent = cond (leb (word_bytes * length ws) (length lent)) (text_of ws ++ drop (length (text_of ws)) lent) lent
