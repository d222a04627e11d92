-- Blocks of nodes of two machines: what it is to cover the nodes, to be disjoint, to have a start node, to be split by a set; and the
-- written line that is true at exactly the nodes of a set.
use Rattle.std.specs.Prelude.{◌≡◌, ◌⊎◌, ◌↔◌, ℕ, ◌≤◌, ◌<◌, List, Bool, not, T}
use Rattle.truth.specs.Passed.{kripke, nodes, lifted, line_words}
use Rattle.truth.specs.Truth.{Truths, TrueAt}
use Rattle.comparison.specs.inner.Lines.{Entry, sheet}

-- the truths of a list of lines
abbrev pub TrueIn : List ℕ → List Entry → Truths
TrueIn M ls = TrueAt (lifted line_words) M (sheet ls)

-- line j of the sheet is true at exactly the nodes of the set
unfoldable pub Exact : List ℕ → List Entry → ℕ → (ℕ → Bool) → Type 0
Exact M ls j p = (s : ℕ) → 1 ≤ s → s ≤ nodes M → TrueIn M ls j s ↔ T (p s)

-- which nodes are in block c: `mem c s`; blocks count from 0
abbrev pub Members : Type 0
Members = ℕ → ℕ → Bool

-- ---- of one machine

module _ (M : List ℕ) (mem : Members) where
  -- s is a node of block c
  unfoldable pub In : ℕ → ℕ → Type 0
  In c s = (1 ≤ s) × (s ≤ nodes M) × T (mem c s)

  unfoldable pub HasStart : ℕ → Type 0
  HasStart c = (s : ℕ) × T ((kripke M).start s) × T (mem c s)

  -- every node is in one of the blocks
  unfoldable pub Covers : ℕ → Type 0
  Covers count = (s : ℕ) → 1 ≤ s → s ≤ nodes M → (c : ℕ) × (c < count) × T (mem c s)

  -- no node is in two of the blocks
  unfoldable pub Disjoint : ℕ → Type 0
  unfolding In
  Disjoint count = (c d s : ℕ) → c < count → d < count → In c s → In d s → c ≡ d

  -- every node of block c is in the set
  unfoldable pub AllIn : ℕ → (ℕ → Bool) → Type 0
  unfolding In
  AllIn c x = (s : ℕ) → In c s → T (x s)

-- ---- of both machines

module _ (M₁ M₂ : List ℕ) (m₁ m₂ : Members) where
  -- a node of block c, of either machine
  unfoldable pub Inhabited : ℕ → Type 0
  unfolding In
  Inhabited c = ((s : ℕ) × In M₁ m₁ c s) ⊎ ((t : ℕ) × In M₂ m₂ c t)

  -- one in the set x₁ of the first machine's nodes, or in x₂ of the second's
  unfoldable pub Meets : ℕ → (ℕ → Bool) → (ℕ → Bool) → Type 0
  unfolding In
  Meets c x₁ x₂ = ((s : ℕ) × In M₁ m₁ c s × T (x₁ s)) ⊎ ((t : ℕ) × In M₂ m₂ c t × T (x₂ t))

  -- the sets do not split block c: they hold it whole, or nothing of it
  unfoldable pub Unsplit : ℕ → (ℕ → Bool) → (ℕ → Bool) → Type 0
  unfolding AllIn
  Unsplit c x₁ x₂ = (AllIn M₁ m₁ c x₁ × AllIn M₂ m₂ c x₂) ⊎ (AllIn M₁ m₁ c (λ s. not (x₁ s)) × AllIn M₂ m₂ c (λ t. not (x₂ t)))

  -- they split it: it has a node in them and one outside
  unfoldable pub Split : ℕ → (ℕ → Bool) → (ℕ → Bool) → Type 0
  unfolding Meets
  Split c x₁ x₂ = Meets c x₁ x₂ × Meets c (λ s. not (x₁ s)) (λ t. not (x₂ t))

  -- block c has a start node of one machine only
  unfoldable pub OneStart : ℕ → Type 0
  unfolding HasStart
  OneStart c = (HasStart M₁ m₁ c × (HasStart M₂ m₂ c → ⊥)) ⊎ ((HasStart M₁ m₁ c → ⊥) × HasStart M₂ m₂ c)
