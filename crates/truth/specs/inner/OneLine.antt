-- The row of one line, from whatever rows stand above it.
use Rattle.std.specs.Prelude.{◌≡◌, ◌↔◌, ℕ, ◌-◌, ◌*◌, ◌≤◌, ◌<◌, List, Bool, false, ◌&&◌, length, T, leb}
use Rattle.sheets.specs.Format.{variables_most, chained_most}
use Rattle.sheets.specs.Words.{within}
use Rattle.sheets.specs.Machine.{nodes, kripke, machine_refusal}
use Rattle.sheets.specs.Structures.{Automaton}
use Rattle.sheets.specs.Rules.{lent, lines, automata, automaton, line, rule_refusal}
use Rattle.sheets.specs.Positioned.{positioned}
use Rattle.sheets.specs.declared.position.ByPosition.{ByPosition}
use Rattle.truth.specs.Sizes.{members_most, row_words}
use Rattle.truth.specs.Truth.{Means, SomePath}
use Rattle.truth.specs.inner.Product.{good, Refers, Allowed, GoodRows}
use Rattle.truth.specs.inner.Pairs.{edge_in, Transposed, Greatest, Least}
use Rattle.truth.specs.Labelling.{row_truths}

-- row s - 1 of `next` has the successors of node s of M
abbrev pub Successors : List ℕ → List ℕ → Type 0
Successors M next = (s u : ℕ) → 1 ≤ s → s ≤ nodes M → edge_in next s u ≡ (within 1 members_most u && (kripke M).edge s u)

-- accepted sheets, and the tables of the machine: the successors of each node, and its predecessors likewise
pub record Ready (M R next back : List ℕ) : Type 0 where
  pub machine : machine_refusal M ≡ 0
  pub rules : rule_refusal lent R ≡ 0
  pub successors : Successors M next
  pub predecessors : Transposed (nodes M) next back

-- line j, where the rows of the lines above it are there
pub record LineReady (M R next back rows : List ℕ) (j : ℕ) : Type 0 where
  pub ready : Ready M R next back
  pub from : 1 ≤ j
  pub to : j ≤ lines R
  pub above : row_words * (j - 1) ≤ length rows

-- a set is the row of line j: it has the nodes where the line is true by the bits of the rows above it, and no other bit
pub record LineRow (M R rows : List ℕ) (j : ℕ) (row : ℕ → Bool) : Type 0 where
  pub truth : (s : ℕ) → 1 ≤ s → s ≤ nodes M → T (row s) ↔ Means (kripke M) (automaton R) (row_truths rows) (line lent R j) s
  pub clear : (s : ℕ) → nodes M < s → row s ≡ false

-- a path line of automaton x, whose argument lines have rows
pub record PathReady (M R next back rows : List ℕ) (arg : ℕ → ℕ) (x : ℕ) : Type 0 where
  pub ready : Ready M R next back
  pub from : 1 ≤ x
  pub to : x ≤ automata R
  pub arguments : Refers rows arg (positioned R x).variables

-- what a path line's tables ask for: an automaton by position that fits them, whose argument lines have rows
pub record Solvable (M next back rows : List ℕ) (arg : ℕ → ℕ) (a : ByPosition) : Type 0 where
  pub predecessors : Transposed (nodes M) next back
  pub few : a.count ≤ chained_most
  pub valued : a.variables ≤ variables_most
  pub arguments : Refers rows arg a.variables

-- the path of its automaton x exists from s, by the bits of the rows of its argument lines
abbrev pub Holds : List ℕ → List ℕ → List ℕ → (ℕ → ℕ) → ℕ → Bool → ℕ → Type 0
Holds M R rows arg x exchanged s = SomePath (kripke M) (positioned R x) (row_truths rows) arg (good exchanged (positioned R x)) s

-- a set has the nodes from which that path exists, and no other bit
pub record PathRow (M R rows : List ℕ) (arg : ℕ → ℕ) (x : ℕ) (exchanged : Bool) (row : ℕ → Bool) : Type 0 where
  pub truth : (s : ℕ) → 1 ≤ s → s ≤ nodes M → T (row s) ↔ Holds M R rows arg x exchanged s
  pub clear : (s : ℕ) → nodes M < s → row s ≡ false

-- the nodes of M, as a row has them
abbrev pub node_set : List ℕ → ℕ → Bool
node_set M s = leb s (nodes M) && within 1 members_most s

-- The tables of a path line, solved: where the automaton A, of t positions, may go, the largest set of good pairs each of which has a step
-- into it, and the pairs from which steps lead into that set, with their times.
pub record SolvedLine (M : List ℕ) (A : Automaton) (t : ℕ) (next rows : List ℕ) (arg : ℕ → ℕ) (exchanged : Bool) (allow lasting reached times : List ℕ) : Type 0 where
  pub goods : List ℕ
  pub allowed : Allowed A t rows arg (node_set M) allow
  pub good_rows : GoodRows A t (node_set M) exchanged goods
  pub greatest : Greatest allow next t goods lasting
  pub least : Least allow next t lasting reached times
