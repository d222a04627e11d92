-- The states on an automaton's chain by their positions, which count from 0: sets of positions as the bits of a word, and tables of
-- such words, by which question 14 is computed. Only the contracts of functions below that question name them; proofs/ReachedPositions
-- ties them to `Rules`.
use Rattle.std.specs.Prelude.{ℕ, zero, suc, List, Bool, false, not, ◌&&◌, ◌||◌, get_or, ltb, eqb}
use Rattle.sheets.specs.Words.{bit}

-- the test holds at a position below n
unfoldable pub some_below : ℕ → (ℕ → Bool) → Bool
some_below zero p = false
some_below (suc n) p = some_below n p || p n

-- t stands at position k, among the first n of the states
abbrev pub stands_at : List ℕ → ℕ → ℕ → ℕ → Bool
stands_at states n t k = ltb k n && eqb t (get_or states k 0)

-- position i is in row j of a table
abbrev pub in_row : List ℕ → ℕ → ℕ → Bool
in_row rows j i = bit (get_or rows j 0) i

-- 1 to f + 1 steps of a relation reach position i from position p, among n positions
unfoldable pub reached_at : (ℕ → ℕ → Bool) → ℕ → ℕ → ℕ → ℕ → Bool
unfolding some_below
reached_at may n p zero i = may p i
reached_at may n p (suc f) i = reached_at may n p f i || some_below n (λ j. reached_at may n p f j && may j i)

-- position p is in the set, q is not, and the rows of a table have each at the other
abbrev pub mixing : ℕ → List ℕ → ℕ → ℕ → Bool
mixing set reach p q = bit set p && not (bit set q) && in_row reach p q && in_row reach q p
