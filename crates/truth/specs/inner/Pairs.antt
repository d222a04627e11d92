-- Sets of pairs of a position p on an automaton's chain, from 0, and a node s, from 1, held in tables of rows: row p has the nodes.
-- What the solver finds: the largest set of pairs each of which has a step into it, and the pairs from which steps lead into a set.
use Rattle.std.specs.Prelude.{◌≡◌, ◌⊎◌, ℕ, ◌+◌, ◌-◌, ◌*◌, ◌≤◌, ◌<◌, List, Bool, not, ◌&&◌, length, get_or, T, eqb, leb}
use Rattle.sheets.specs.Words.{within, indicator, sum}
use Rattle.truth.specs.Sizes.{members_most, cell, pairs_most, pair_at}
use Rattle.truth.specs.inner.Rows.{rows_has}

-- an edge leads from s to s', in a table that has the successors of node s at row s - 1
abbrev pub edge_in : List ℕ → ℕ → ℕ → Bool
edge_in next s s' = rows_has next (s - 1) s'

-- A step from (p, s) to (p', s'), among positions below t: row `cell p p'` of `allow` has the nodes at which the automaton may go
-- from p to p' (perhaps to several positions at one node), and an edge leads from s to s'.
pub record PairStep (allow next : List ℕ) (t p s p' s' : ℕ) : Type 0 where
  pub below : p' < t
  pub allowed : T (rows_has allow (cell p p') s)
  pub moves : T (edge_in next s s')

-- every row of the first t has nodes 1 to n alone
abbrev pub UpTo : ℕ → ℕ → List ℕ → Type 0
UpTo n t ys = (p s : ℕ) → p < t → T (rows_has ys p s) → s ≤ n

-- row u - 1 of `back` has, among nodes 1 to n, those that an edge leads from to u
abbrev pub Transposed : ℕ → List ℕ → List ℕ → Type 0
Transposed n next back = (s u : ℕ) → 1 ≤ u → u ≤ n → rows_has back (u - 1) s ≡ (leb s n && (within 1 members_most s && edge_in next s u))

-- s is among what row u - 1 of `back` has, for a u of the row
abbrev pub Before : List ℕ → (ℕ → Bool) → ℕ → Type 0
Before back row s = (u : ℕ) × T (row u) × T (rows_has back (u - 1) s)

-- row p of a table has no node
abbrev pub NoRow : List ℕ → ℕ → Type 0
NoRow ys p = (s : ℕ) → T (rows_has ys p s) → ⊥

-- no row below k has one
abbrev pub NoRows : ℕ → List ℕ → Type 0
NoRows k ys = (p : ℕ) → p < k → NoRow ys p

-- `after` is `before` with row p emptied
pub record Cleared (p : ℕ) (before after : List ℕ) : Type 0 where
  pub size : length after ≡ length before
  pub rows : (q s : ℕ) → rows_has after q s ≡ (rows_has before q s && not (eqb q p))

-- ---- the pairs from which steps lead into a set

-- finitely many steps lead from (p, s) into `xs`
pub data Reaches (allow next : List ℕ) (t : ℕ) (xs : List ℕ) : ℕ → ℕ → Type 0 where
  here : {p s : ℕ} → T (rows_has xs p s) → Reaches allow next t xs p s
  there : {p s p' s' : ℕ} → PairStep allow next t p s p' s' → Reaches allow next t xs p' s' → Reaches allow next t xs p s

-- the time at which a pair was met, in a table of numbers by pair
abbrev pub time_of : List ℕ → ℕ → ℕ → ℕ
time_of times p s = get_or times (pair_at p s) 0

-- there is room for the time of every pair
abbrev pub Timed : List ℕ → Type 0
Timed times = pairs_most ≤ length times

-- every time is 0
abbrev pub NoTime : List ℕ → Type 0
NoTime times = (i : ℕ) → get_or times i 0 ≡ 0

-- a step leads from (p, s) to a pair of `set` with an earlier time
abbrev pub Sooner : List ℕ → List ℕ → ℕ → List ℕ → List ℕ → ℕ → ℕ → Type 0
Sooner allow next t set times p s = (p' s' : ℕ) × PairStep allow next t p s p' s' × T (rows_has set p' s') × (time_of times p' s' < time_of times p s)

-- `ys` is the least set that has `xs` and every pair with a step into it; where times are kept, the time falls along some step from each
-- other pair
pub record Least (allow next : List ℕ) (t : ℕ) (xs ys times : List ℕ) : Type 0 where
  pub keeps : (p s : ℕ) → p < t → T (rows_has xs p s) → T (rows_has ys p s)
  pub reaches : (p s : ℕ) → p < t → T (rows_has ys p s) → Reaches allow next t xs p s
  pub closed : (p s p' s' : ℕ) → p < t → PairStep allow next t p s p' s' → T (rows_has ys p' s') → T (rows_has ys p s)
  pub falls : Timed times → (p s : ℕ) → p < t → T (rows_has ys p s) → T (rows_has xs p s) ⊎ Sooner allow next t ys times p s

-- ---- the largest set of pairs each of which has a step into it

-- a step from (p, s) leads into the set W
abbrev pub Onward : List ℕ → List ℕ → ℕ → (ℕ → ℕ → Bool) → ℕ → ℕ → Type 0
Onward allow next t W p s = (p' s' : ℕ) × PairStep allow next t p s p' s' × T (W p' s')

-- every pair of W, of a position below t, has a step into W
abbrev pub Lasts : List ℕ → List ℕ → ℕ → (ℕ → ℕ → Bool) → Type 0
Lasts allow next t W = (p s : ℕ) → p < t → T (W p s) → Onward allow next t W p s

-- the pairs of W, of positions below t, are all in `xs`
abbrev pub Inside : ℕ → (ℕ → ℕ → Bool) → List ℕ → Type 0
Inside t W xs = (p s : ℕ) → p < t → T (W p s) → T (rows_has xs p s)

-- `after` is the largest lasting set within `before`
pub record Greatest (allow next : List ℕ) (t : ℕ) (before after : List ℕ) : Type 0 where
  pub fewer : (p s : ℕ) → p < t → T (rows_has after p s) → T (rows_has before p s)
  pub largest : (W : ℕ → ℕ → Bool) → Lasts allow next t W → Inside t W before → Inside t W after
  pub lasts : Lasts allow next t (rows_has after)

-- ---- what falls while a set is made: each pair counts two in one set and one in another

unfoldable pub weigh : Bool → Bool → ℕ
unfolding indicator
weigh x g = 2 * indicator x + indicator g

-- what the pairs of positions below t count
unfoldable pub weight : ℕ → (ℕ → ℕ → Bool) → (ℕ → ℕ → Bool) → ℕ
unfolding sum weigh
weight t x g = sum t (λ q. sum members_most (λ s. weigh (x (q - 1) s) (g (q - 1) s)))
