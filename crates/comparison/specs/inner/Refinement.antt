-- A refinement of the nodes of two machines: blocks, each with a written line that is true at exactly its nodes.
use Rattle.std.specs.Prelude.{◌≡◌, ◌≢◌, ℕ, ◌+◌, ◌≤◌, ◌<◌, List, Bool, not, ◌&&◌, length}
use Rattle.truth.specs.inner.Rows.{rows_has}
use Rattle.comparison.specs.inner.Sizes.{block_words}
use Rattle.comparison.specs.inner.Lines.{Entry, Downward}
use Rattle.comparison.specs.inner.Blocks.{Exact, Members, Covers, Disjoint, Inhabited}

-- of one machine: the blocks are disjoint, cover the nodes, and have their lines
pub record Refined (M : List ℕ) (ls : List Entry) (count : ℕ) (line : ℕ → ℕ) (mem : Members) : Type 0 where
  pub covers : Covers M mem count
  pub once : Disjoint M mem count
  pub exact : (c : ℕ) → c < count → Exact M ls (line c) (mem c)

-- the lines of the blocks stand in the list
unfoldable pub LinesIn : List Entry → ℕ → (ℕ → ℕ) → Type 0
LinesIn ls count line = (c : ℕ) → c < count → (1 ≤ line c) × (line c ≤ length ls)

-- of both machines; every block has a node
pub record Refinement (a : ℕ) (M₁ M₂ : List ℕ) (ls : List Entry) (count : ℕ) (line : ℕ → ℕ) (m₁ m₂ : Members) : Type 0 where
  pub down : Downward a ls
  pub lines : LinesIn ls count line
  pub first : Refined M₁ ls count line m₁
  pub second : Refined M₂ ls count line m₂
  pub inhabited : (c : ℕ) → c < count → Inhabited M₁ M₂ m₁ m₂ c

-- block c is parted by the set x: the part in x stays block c, the other is block `count`
pub record Parted (count c : ℕ) (x : ℕ → Bool) (mem mem' : Members) : Type 0 where
  pub here : (s : ℕ) → mem' c s ≡ (mem c s && x s)
  pub added : (s : ℕ) → mem' count s ≡ (mem c s && not (x s))
  pub others : (d s : ℕ) → d < count → d ≢ c → mem' d s ≡ mem d s

-- the rows of a table are parted so
pub record PartedRows (count c : ℕ) (x : ℕ → Bool) (before after : List ℕ) : Type 0 where
  pub size : length after ≡ block_words
  pub parted : Parted count c x (rows_has before) (rows_has after)

-- their lines, below n lines
pub record Lined (count c n : ℕ) (line line' : ℕ → ℕ) : Type 0 where
  pub here : line' c ≡ n + 4
  pub added : line' count ≡ n + 6
  pub others : (d : ℕ) → d < count → d ≢ c → line' d ≡ line d
