-- Sets as rows of a table: one member more, and which positions an automaton may go between at some node, where position p is member p + 1.
use Rattle.std.specs.Prelude.{◌≡◌, ℕ, ◌+◌, ◌-◌, ◌≤◌, ◌<◌, List, Bool, ◌&&◌, ◌||◌, length, T, eqb}
use Rattle.sheets.specs.Words.{within}
use Rattle.truth.specs.Sizes.{members_most, cell, set_words}
use Rattle.truth.specs.inner.Rows.{rows_has}

-- `after` is `before` with member s more in row k
pub record Joined (k s : ℕ) (before after : List ℕ) : Type 0 where
  pub size : length after ≡ length before
  pub rows : (q i : ℕ) → rows_has after q i ≡ (rows_has before q i || (eqb q k && (within 1 members_most s && eqb i s)))

-- `after` is `before` with member s more in row u - 1 for each u of the set
pub record AddedBefore (set : ℕ → Bool) (s : ℕ) (before after : List ℕ) : Type 0 where
  pub size : length after ≡ length before
  pub rows : (u i : ℕ) → 1 ≤ u → rows_has after (u - 1) i ≡ (rows_has before (u - 1) i || (set u && (within 1 members_most s && eqb i s)))

-- Row k of `sets` has only positions below t, and each position q for which row `place k q` of `allow` has a node.
pub record Linked (place : ℕ → ℕ → ℕ) (allow sets : List ℕ) (t : ℕ) : Type 0 where
  pub size : length sets ≡ set_words
  pub few : (k u : ℕ) → T (rows_has sets k u) → u ≤ t
  pub all : (k q s : ℕ) → k < t → q < t → T (rows_has allow (place k q) s) → T (rows_has sets k (q + 1))

-- by position those that it may be entered from, and those that it may go to
abbrev pub Into : List ℕ → List ℕ → ℕ → Type 0
Into = Linked (λ k q. cell q k)

abbrev pub Onto : List ℕ → List ℕ → ℕ → Type 0
Onto = Linked cell

-- some member u of the set, with P of its position
abbrev pub Among : (ℕ → Bool) → (ℕ → Type 0) → Type 0
Among set P = (u : ℕ) × T (set u) × P (u - 1)
