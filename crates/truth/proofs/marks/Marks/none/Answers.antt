-- `none` meets its contract: there is no mark in a table that has none.
use Rattle.std.proofs.Common.{◌≡◌, ℕ, sym, ◌∙◌}
use Rattle.std.specs.Prelude.{Option, None, Some}
use Rattle.truth.specs.Sizes.{node_places}
use Rattle.truth.proofs.marks.MarkedRows.{unmarked}
use Rattle.truth.proofs.marks.Marks.none.Goals as goal

-- no mark is none
empty : (o : Option ℕ) (e : ℕ) → o ≡ None → o ≡ Some e → ⊥
empty o e p q = let no : ◌≡◌ {A = Option ℕ} None (Some e) = sym p ∙ q in absurd cc

pub invariant_of-result : goal.invariant_of-result
invariant_of-result c = record { every = λ t e q w. absurd (empty _ e (unmarked node_places t) q) }

pub returns-clause-none : goal.returns-clause-none
returns-clause-none c s = unmarked node_places s
