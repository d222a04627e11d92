-- What is found of the start nodes in blocks: a block that has one of one machine only, or that there is none.
use Rattle.std.specs.Prelude.{◌↔◌, ℕ, ◌<◌, List, Bool, not, ◌&&◌, Option, None, Some}
use Rattle.std.specs.Bool.{beq}
use Rattle.truth.specs.Passed.{each}
use Rattle.truth.specs.Sizes.{members_most}
use Rattle.comparison.specs.inner.Blocks.{Members, HasStart, OneStart}

-- a node of the block is one of the start nodes
abbrev pub has_start : (block starts : ℕ → Bool) → Bool
has_start block starts = not (each members_most (λ s. not (block s && starts s)))

-- one of the two holds alone
abbrev pub differ : Bool → Bool → Bool
differ a b = not (beq a b)

-- a block with a start node of one machine only, or none where each block has one of both or of neither
abbrev pub OneSided : (M₁ M₂ : List ℕ) (m₁ m₂ : Members) (count : ℕ) → Option ℕ → Type 0
OneSided M₁ M₂ m₁ m₂ count None = (c : ℕ) → c < count → HasStart M₁ m₁ c ↔ HasStart M₂ m₂ c
OneSided M₁ M₂ m₁ m₂ count (Some c) = (c < count) × OneStart M₁ M₂ m₁ m₂ c
