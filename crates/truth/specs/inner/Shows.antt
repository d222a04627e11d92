-- The list that is made for one path line from the rows above it.
use Rattle.std.specs.Prelude.{◌≡◌, ℕ, ◌*◌, ◌≤◌, List, Bool, Some, None, Ok, Err}
use Rattle.sheets.specs.Machine.{nodes, kripke, machine_refusal}
use Rattle.sheets.specs.Rules.{lent, automata, automaton, rule_refusal}
use Rattle.sheets.specs.Positioned.{state_count, positioned}
use Rattle.truth.specs.Labelling.{row_truths}
use Rattle.truth.specs.Lists.{Lasso}
use Rattle.truth.specs.inner.Product.{good, Refers}
use Rattle.truth.specs.inner.OneLine.{Holds}
use Rattle.truth.specs.inner.Trails.{placed}
use Rattle.truth.specs.PathAnswers.{Answer}

-- a path line of automaton x may be asked about at node s: the sheets are accepted, its argument lines have rows, and s is a node
pub record Askable (M R rows : List ℕ) (arg : ℕ → ℕ) (x s : ℕ) : Type 0 where
  pub machine : machine_refusal M ≡ 0
  pub rules : rule_refusal lent R ≡ 0
  pub from : 1 ≤ x
  pub to : x ≤ automata R
  pub arguments : Refers rows arg (positioned R x).variables
  pub low : 1 ≤ s
  pub high : s ≤ nodes M

-- What is said of a path line of automaton x at node s, by the bits of the rows of its argument lines: no path where none exists; otherwise the list of nodes and states
-- shows one.
unfoldable pub ShowsLine : List ℕ → List ℕ → List ℕ → (ℕ → ℕ) → ℕ → Bool → ℕ → List ℕ → List ℕ → Answer → Type 0
ShowsLine M R rows arg x exchanged s list names (Err refusal) = ⊥
ShowsLine M R rows arg x exchanged s list names (Ok None) = Holds M R rows arg x exchanged s → ⊥
ShowsLine M R rows arg x exchanged s list names (Ok (Some shown)) =
    Holds M R rows arg x exchanged s
    × Lasso (kripke M) (automaton R x) (row_truths rows) arg (good exchanged (automaton R x)) s (placed list) (placed names) shown.length shown.back
    × (shown.length ≤ nodes M * state_count R x)
