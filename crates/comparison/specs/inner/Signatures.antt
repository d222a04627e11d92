-- Signatures: the marks of blocks on nodes, the marks that a node's edges lead to, and what they tell of a block.
use Rattle.std.specs.Prelude.{◌≡◌, ℕ, ◌+◌, ◌<◌, List, Bool, true, not, ◌&&◌, get_or, T, eqb, Option, None, Some, MatchOption}
use Rattle.truth.specs.inner.Rows.{row_has, NoNode}
use Rattle.truth.specs.inner.Marks.{marks_into}
use Rattle.truth.specs.declared.rows.Row.{Row}
use Rattle.comparison.specs.inner.Blocks.{Members, Unsplit, Split}
use Rattle.comparison.specs.inner.Tables.{first_of, second_of, OfNodes}
use Rattle.comparison.specs.declared.blocks.Partition.{Partition}
use Rattle.comparison.specs.inner.Stages.{Staged, Finer, NextsDone}
use Rattle.comparison.specs.declared.signatures.Lead.{Lead}

-- ---- marks on nodes

-- a node of one of the blocks 0 to n - 1 has the mark d + 1 of such a block d that it is in
unfoldable pub BlockMarks : Members → ℕ → List (Option ℕ) → Type 0
BlockMarks mem n mark = (c s : ℕ) → c < n → T (mem c s) → (d : ℕ) × (d < n) × (get_or mark s None ≡ Some (d + 1)) × T (mem d s)

-- ---- what is told of the signatures

-- a mark that one of the sets has and the other has not, or none where they are the same
abbrev pub TellsApart : (ℕ → Bool) → (ℕ → Bool) → Option ℕ → Type 0
TellsApart a b None = (e : ℕ) → a e ≡ b e
TellsApart a b (Some r) = a r ≡ not (b r)

-- a mark in which some node of the row differs from the set, or none where none does
abbrev pub TellsUnlike : (M : List ℕ) (mark : List (Option ℕ)) (row l : ℕ → Bool) → Option ℕ → Type 0
TellsUnlike M mark row l None = (s : ℕ) → T (row s) → (e : ℕ) → marks_into M mark s e ≡ l e
TellsUnlike M mark row l (Some r) = (s : ℕ) × T (row s) × (marks_into M mark s r ≡ not (l r))

-- the set is the signature of a node of the row, and the others are left
pub record Leads (M : List ℕ) (mark : List (Option ℕ)) (row : ℕ → Bool) (lead : Lead) : Type 0 where
  pub node : ℕ
  pub is_in : T (row node)
  pub signature : (e : ℕ) → row_has lead.marks e ≡ marks_into M mark node e
  pub rest : (s : ℕ) → row_has lead.rest s ≡ (row s && not (eqb s node))

-- a node of the row leads, or it has none
abbrev pub Led : List ℕ → List (Option ℕ) → Row → Option Lead → Type 0
Led M mark row o = MatchOption o (NoNode row) (Leads M mark (row_has row))

-- ---- what is told of a block

-- r tells that the row has at most one node
pub record TellsOne (row : ℕ → Bool) (r : Bool) : Type 0 where
  pub node : ℕ
  pub only : r ≡ true → (s : ℕ) → T (row s) → s ≡ node

-- the two rows together have at most one node
pub record Alone (row₁ row₂ : ℕ → Bool) : Type 0 where
  pub node : ℕ
  pub first : (s : ℕ) → T (row₁ s) → s ≡ node
  pub second : (t : ℕ) → T (row₂ t) → t ≡ node
  pub apart : (s t : ℕ) → T (row₁ s) → T (row₂ t) → ⊥

-- a mark that the edges of one node of block c lead to and those of another do not, or none where there is none
abbrev pub TellsMark : (M₁ M₂ : List ℕ) (m₁ m₂ : Members) (mark₁ mark₂ : List (Option ℕ)) (c : ℕ) → Option ℕ → Type 0
TellsMark M₁ M₂ m₁ m₂ mark₁ mark₂ c None = (e : ℕ) → Unsplit M₁ M₂ m₁ m₂ c (λ s. marks_into M₁ mark₁ s e) (λ t. marks_into M₂ mark₂ t e)
TellsMark M₁ M₂ m₁ m₂ mark₁ mark₂ c (Some r) =
    OfNodes M₁ M₂ m₁ m₂ c → Split M₁ M₂ m₁ m₂ c (λ s. marks_into M₁ mark₁ s r) (λ t. marks_into M₂ mark₂ t r)

-- ---- a turn

-- where there is no block more, no "some next" of a block splits a block
pub record Turned (M₁ M₂ : List ℕ) (st st' : Partition) : Type 0 where
  pub staged : Staged M₁ M₂ 5 st'
  pub finer : Finer st st'
  pub done : st'.count ≡ st.count → NextsDone M₁ M₂ st'.count (first_of st') (second_of st')
