-- What both kinds of sheet share: words, bits, tests of many records, and chains of records.
use Rattle.std.specs.Prelude.{ℕ, zero, suc, ◌+◌, ◌/◌, ◌%◌, ◌^◌, List, [], ◌∷◌, Bool, true, false, ◌&&◌, ◌||◌, get_or, leb, ltb, eqb}

-- the word at an index, counted from 0; past the end it is 0
unfoldable pub word : List ℕ → ℕ → ℕ
word ws i = get_or ws i 0

-- bit i of a number, bit 0 the lowest
unfoldable pub bit : ℕ → ℕ → Bool
bit x i = eqb (x / 2 ^ i % 2) 1

-- from `low` to `high`, both included
abbrev pub within : ℕ → ℕ → ℕ → Bool
within low high x = leb low x && leb x high

-- the test holds at 1 to n: of every record of a kind
unfoldable pub each : ℕ → (ℕ → Bool) → Bool
each zero p = true
each (suc n) p = each n p && p (suc n)

-- the test holds of every element
unfoldable pub all_of : List ℕ → (ℕ → Bool) → Bool
all_of [] p = true
all_of (x ∷ xs) p = p x && all_of xs p

unfoldable pub any_of : List ℕ → (ℕ → Bool) → Bool
any_of [] p = false
any_of (x ∷ xs) p = p x || any_of xs p

unfoldable pub member : ℕ → List ℕ → Bool
unfolding any_of
member x xs = any_of xs (eqb x)

-- 1 for a test that holds, 0 for one that does not
unfoldable pub indicator : Bool → ℕ
indicator true = 1
indicator false = 0

-- f 1 + .. + f n
unfoldable pub sum : ℕ → (ℕ → ℕ) → ℕ
sum zero f = 0
sum (suc n) f = sum n f + f (suc n)

-- how many elements pass the test
unfoldable pub how_many : List ℕ → (ℕ → Bool) → ℕ
unfolding indicator
how_many [] p = 0
how_many (x ∷ xs) p = indicator (p x) + how_many xs p

-- The records of the chain that starts at record i, in order; 0 ends a chain. `next` is the link of a record, and the
-- first argument counts down: as many as there are records is enough, since a link leads to a higher number (questions 5, 10 and 11).
unfoldable pub chain : ℕ → (ℕ → ℕ) → ℕ → List ℕ
chain zero next i = []
chain (suc f) next zero = []
chain (suc f) next (suc i) = suc i ∷ chain f next (next (suc i))

-- a record's link: none, or a higher number that is still a record's
abbrev pub link : ℕ → ℕ → ℕ → Bool
link records own next = eqb next 0 || (ltb own next && leb next records)
