-- Blocks in tables: what a split changes, and what is told of a block.
use Rattle.std.specs.Prelude.{◌≡◌, ℕ, ◌+◌, ◌≤◌, ◌<◌, List, Bool, true, false, length, get_or, T}
use Rattle.truth.specs.Passed.{nodes, nodes_most}
use Rattle.truth.specs.inner.Rows.{rows_has}
use Rattle.comparison.specs.inner.Sizes.{written_space, written_most, block_places, block_words}
use Rattle.comparison.specs.inner.Lines.{split, Adds}
use Rattle.comparison.specs.inner.Blocks.{Members, Meets, Unsplit, Split}
use Rattle.comparison.specs.inner.Refinement.{PartedRows, Lined}
use Rattle.comparison.specs.declared.writing.Written.{Written}
use Rattle.comparison.specs.declared.blocks.Partition.{Partition}

abbrev pub first_of : Partition → Members
first_of st = rows_has st.rows.first

abbrev pub second_of : Partition → Members
second_of st = rows_has st.rows.second

abbrev pub line_of : Partition → ℕ → ℕ
line_of st c = get_or st.line c 0

-- with other written lines
abbrev pub written : (st : Partition) → Written → st.count ≤ block_places → Partition
written st lines few = record {
  rows = st.rows;
  line = st.line;
  count = st.count;
  lines = lines;
  few = few;
}

-- ---- a split

pub record LinedBlocks (count c n : ℕ) (before after : List ℕ) : Type 0 where
  pub size : length after ≡ block_places
  pub lined : Lined count c n (λ d. get_or before d 0) (λ d. get_or after d 0)

-- room for a split of block c
pub record Room (st : Partition) (c : ℕ) : Type 0 where
  pub block : c < st.count
  pub count : st.count < nodes_most
  pub lines : st.lines.count + 6 ≤ written_most
  pub first : length st.rows.first ≡ block_words
  pub second : length st.rows.second ≡ block_words
  pub line : length st.line ≡ block_places
  pub words : length st.lines.words ≡ written_space

-- block c was split by the sets, where line p is true
pub record SplitBlock (st st' : Partition) (c p : ℕ) (x₁ x₂ : ℕ → Bool) : Type 0 where
  pub first : PartedRows st.count c x₁ st.rows.first st'.rows.first
  pub second : PartedRows st.count c x₂ st.rows.second st'.rows.second
  pub line : LinedBlocks st.count c st.lines.count st.line st'.line
  pub words : Adds st.lines.words st'.lines.words st.lines.count (split st.lines.count (line_of st c) p)
  pub count : st'.count ≡ st.count + 1
  pub lines : st'.lines.count ≡ st.lines.count + 6

-- ---- what is told

-- the nodes of block c are nodes of the machines
unfoldable pub OfNodes : (M₁ M₂ : List ℕ) → Members → Members → ℕ → Type 0
OfNodes M₁ M₂ m₁ m₂ c = ((s : ℕ) → T (m₁ c s) → s ≤ nodes M₁) × ((t : ℕ) → T (m₂ c t) → t ≤ nodes M₂)

-- r tells whether block c has a node in the sets
pub record TellsMeets (M₁ M₂ : List ℕ) (m₁ m₂ : Members) (c : ℕ) (x₁ x₂ : ℕ → Bool) (r : Bool) : Type 0 where
  pub no : r ≡ false → Meets M₁ M₂ m₁ m₂ c x₁ x₂ → ⊥
  pub yes : r ≡ true → OfNodes M₁ M₂ m₁ m₂ c → Meets M₁ M₂ m₁ m₂ c x₁ x₂

-- r tells whether they split it
pub record TellsSplit (M₁ M₂ : List ℕ) (m₁ m₂ : Members) (c : ℕ) (x₁ x₂ : ℕ → Bool) (r : Bool) : Type 0 where
  pub no : r ≡ false → Unsplit M₁ M₂ m₁ m₂ c x₁ x₂
  pub yes : r ≡ true → OfNodes M₁ M₂ m₁ m₂ c → Split M₁ M₂ m₁ m₂ c x₁ x₂
