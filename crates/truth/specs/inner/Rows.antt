-- Rows: a set of nodes, from 1, in two words, node s at bit s - 1 of both together.
use Rattle.std.specs.Prelude.{◌≡◌, ℕ, zero, suc, ◌+◌, ◌-◌, ◌*◌, ◌≤◌, Bool, true, false, ◌&&◌, not, List, length, get_or, set, T, leb, eqb, Option, MatchOption}
use Rattle.sheets.specs.Words.{bit, within, indicator, any_of}
use Rattle.sheets.specs.Machine.{edges_of, target}
use Rattle.truth.specs.Sizes.{row_word_bits, row_words, high_first, members_most, low_at, high_at}
use Rattle.truth.specs.declared.rows.Row.{Row}

unfoldable pub pick : Bool → Bool → Bool → Bool
pick true a b = a
pick false a b = b

-- node s is in the set that two words hold
unfoldable pub held : ℕ → ℕ → ℕ → Bool
unfolding pick bit
held low high s = within 1 members_most s && pick (leb s row_word_bits) (bit low (s - 1)) (bit high (s - high_first))

abbrev pub row_has : Row → ℕ → Bool
row_has r s = held r.low r.high s

-- node s in row p of a table: two words a row, rows from 0
abbrev pub rows_has : List ℕ → ℕ → ℕ → Bool
rows_has ys p s = held (get_or ys (low_at p) 0) (get_or ys (high_at p) 0) s

-- a table has a row for line j, lines from 1
abbrev pub HasRow : List ℕ → ℕ → Type 0
HasRow ys j = (1 ≤ j) × (row_words * j ≤ length ys)

-- r is row p of a table
abbrev pub IsRow : List ℕ → ℕ → Row → Type 0
IsRow ys p r = (r.low ≡ get_or ys (low_at p) 0) × (r.high ≡ get_or ys (high_at p) 0)

-- a table with row r as its row p
abbrev pub with_row : List ℕ → ℕ → Row → List ℕ
with_row ys p r = set (set ys (low_at p) r.low) (high_at p) r.high

-- how many of 1 to n pass
unfoldable pub tally : ℕ → (ℕ → Bool) → ℕ
unfolding indicator
tally zero p = 0
tally (suc n) p = tally n p + indicator (p (suc n))

-- some edge of node s leads to a node that passes
unfoldable pub leads_into : List ℕ → (ℕ → Bool) → ℕ → Bool
unfolding any_of
leads_into M p s = any_of (edges_of M s) (λ x. p (target M x))

-- node u of the row comes in an order before all others of the row
pub record Leading (before : ℕ → ℕ → Type 0) (r : Row) (u : ℕ) : Type 0 where
  pub is_in : T (row_has r u)
  pub from : 1 ≤ u
  pub to : u ≤ members_most
  pub others : (s : ℕ) → T (row_has r s) → before u s

-- the row has no node
abbrev pub NoNode : Row → Type 0
NoNode r = (s : ℕ) → T (row_has r s) → ⊥

-- the lowest node of the row, or None where it has none, and the highest
abbrev pub Lowest : Row → Option ℕ → Type 0
Lowest r o = MatchOption o (NoNode r) (λ u. Leading (λ u s. u ≤ s) r u)

abbrev pub Highest : Row → Option ℕ → Type 0
Highest r o = MatchOption o (NoNode r) (λ u. Leading (λ u s. s ≤ u) r u)

-- u is the first node of row r in an order, and row t is r without it
pub record Taken (before : ℕ → ℕ → Type 0) (r : Row) (u : ℕ) (t : Row) : Type 0 where
  pub first : Leading before r u
  pub less : (i : ℕ) → row_has t i ≡ (row_has r i && not (eqb i u))

-- the lowest node of row r is taken, which leaves row t; or it has none. And the highest
abbrev pub TakesLowest : Row → Option ℕ → Row → Type 0
TakesLowest r o t = MatchOption o (NoNode r × (t ≡ r)) (λ u. Taken (λ u s. u ≤ s) r u t)

abbrev pub TakesHighest : Row → Option ℕ → Row → Type 0
TakesHighest r o t = MatchOption o (NoNode r × (t ≡ r)) (λ u. Taken (λ u s. s ≤ u) r u t)
