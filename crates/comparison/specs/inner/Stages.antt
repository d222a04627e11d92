-- Stages of refinement: what holds of the tables between two splits, what a splitter changes, and what holds at the end.
use Rattle.std.specs.Prelude.{◌≡◌, ℕ, ◌+◌, ◌*◌, ◌≤◌, ◌<◌, List, Bool, length, get_or, take, T}
use Rattle.truth.specs.Passed.{kripke, signals, machine_refusal, line_words, lines_written}
use Rattle.truth.specs.inner.Rows.{rows_has, leads_into}
use Rattle.comparison.specs.inner.Sizes.{block_places, block_words}
use Rattle.comparison.specs.inner.Bounded.{Bounded}
use Rattle.comparison.specs.inner.Lines.{Entry, sig, written_words, entry, HoldsLines}
use Rattle.comparison.specs.inner.Blocks.{Exact, Members, Unsplit}
use Rattle.comparison.specs.inner.Refinement.{Refinement}
use Rattle.comparison.specs.inner.Tables.{first_of, second_of, line_of, OfNodes}
use Rattle.comparison.specs.declared.blocks.Partition.{Partition}

-- The blocks refine the nodes of both machines. Their lines are written, below those of the signals, and are few for so many blocks: at
-- most 7 a split, with some to spare.
pub record Staged (M₁ M₂ : List ℕ) (spare : ℕ) (st : Partition) : Type 0 where
  pub accepted₁ : machine_refusal M₁ ≡ 0
  pub accepted₂ : machine_refusal M₂ ≡ 0
  pub bounded : Bounded M₁ M₂
  pub size₁ : length st.rows.first ≡ block_words
  pub size₂ : length st.rows.second ≡ block_words
  pub size_line : length st.line ≡ block_places
  pub ls : List Entry
  pub number : length ls ≡ st.lines.count
  pub holds : HoldsLines st.lines.words ls
  pub refinement : Refinement (signals M₁) M₁ M₂ ls st.count (line_of st) (first_of st) (second_of st)
  pub of_nodes : (c : ℕ) → c < st.count → OfNodes M₁ M₂ (first_of st) (second_of st) c
  pub signal : (i : ℕ) → 1 ≤ i → i ≤ signals M₁ → entry ls i ≡ sig i
  pub below : signals M₁ ≤ st.lines.count
  pub short : st.lines.count + spare ≤ lines_written (signals M₁) st.count

-- ---- a splitter: two sets, and the line that is true there

pub record Cut (M₁ M₂ : List ℕ) (ls : List Entry) (p : ℕ) (x₁ x₂ : ℕ → Bool) : Type 0 where
  pub from : 1 ≤ p
  pub to : p ≤ length ls
  pub first : Exact M₁ ls p x₁
  pub second : Exact M₂ ls p x₂

pub record Ready (M₁ M₂ : List ℕ) (spare : ℕ) (st : Partition) (p : ℕ) (x₁ x₂ : ℕ → Bool) : Type 0 where
  pub staged : Staged M₁ M₂ spare st
  pub cut : Cut M₁ M₂ staged.ls p x₁ x₂

-- ---- what a splitter changes

-- each block of st' is a part of one of st
pub record Finer (st st' : Partition) : Type 0 where
  pub more : st.count ≤ st'.count
  pub part : (d : ℕ) → d < st'.count
      → (c : ℕ) × (c < st.count) × ((s : ℕ) → T (first_of st' d s) → T (first_of st c s)) × ((t : ℕ) → T (second_of st' d t) → T (second_of st c t))

-- block d has the same nodes
pub record Kept (st st' : Partition) (d : ℕ) : Type 0 where
  pub was : d < st.count
  pub first : (s : ℕ) → first_of st' d s ≡ first_of st d s
  pub second : (t : ℕ) → second_of st' d t ≡ second_of st d t

-- the sets split no block any more
pub record Divided (M₁ M₂ : List ℕ) (st st' : Partition) (x₁ x₂ : ℕ → Bool) : Type 0 where
  pub staged : Staged M₁ M₂ 5 st'
  pub finer : Finer st st'
  pub done : (c : ℕ) → c < st'.count → Unsplit M₁ M₂ (first_of st') (second_of st') c x₁ x₂

-- ---- what holds at the end

-- no signal splits a block
abbrev pub SignalsDone : (M₁ M₂ : List ℕ) → ℕ → Members → Members → Type 0
SignalsDone M₁ M₂ count m₁ m₂ =
    (c i : ℕ) → c < count → 1 ≤ i → i ≤ signals M₁ → Unsplit M₁ M₂ m₁ m₂ c ((kripke M₁).signal i) ((kripke M₂).signal i)

-- no "some next of a block" splits a block
abbrev pub NextsDone : (M₁ M₂ : List ℕ) → ℕ → Members → Members → Type 0
NextsDone M₁ M₂ count m₁ m₂ = (c d : ℕ) → c < count → d < count → Unsplit M₁ M₂ m₁ m₂ c (leads_into M₁ (m₁ d)) (leads_into M₂ (m₂ d))

pub record Signalled (M₁ M₂ : List ℕ) (st : Partition) : Type 0 where
  pub staged : Staged M₁ M₂ 5 st
  pub signals-done : SignalsDone M₁ M₂ st.count (first_of st) (second_of st)

pub record Settled (M₁ M₂ : List ℕ) (st : Partition) : Type 0 where
  pub signalled : Signalled M₁ M₂ st
  pub nexts-done : NextsDone M₁ M₂ st.count (first_of st) (second_of st)

-- the answer: a refinement that no signal and no "some next of a block" splits, and the words of its lines
pub record Partitioned (M₁ M₂ : List ℕ) (p : Partition) : Type 0 where
  pub ls : List Entry
  pub number : length ls ≡ p.lines.count
  pub stands : take (line_words * p.lines.count) p.lines.words ≡ written_words ls
  pub refinement : Refinement (signals M₁) M₁ M₂ ls p.count (λ c. get_or p.line c 0) (rows_has p.rows.first) (rows_has p.rows.second)
  pub short : p.lines.count + 5 ≤ lines_written (signals M₁) p.count
  pub signals-done : SignalsDone M₁ M₂ p.count (rows_has p.rows.first) (rows_has p.rows.second)
  pub nexts-done : NextsDone M₁ M₂ p.count (rows_has p.rows.first) (rows_has p.rows.second)
