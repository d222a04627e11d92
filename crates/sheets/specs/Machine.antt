-- The plain machine sheet: what `MachineForms` says of the form `plain`.
use Rattle.std.specs.Prelude.{ℕ, List, Bool}
use Rattle.sheets.specs.Format.{plain}
use Rattle.sheets.specs.Structures.{Kripke}
use Rattle.sheets.specs.Questions.{Question, first_no}
use Rattle.sheets.specs.MachineForms as Forms
pub use Rattle.sheets.specs.MachineForms.{nodes, signals, edges}
unfoldable pub use Rattle.sheets.specs.MachineForms.{q1}

-- signal i at node s
abbrev pub signal_at : List ℕ → ℕ → ℕ → Bool
signal_at = Forms.signal_at plain

-- the start flag of node s: 1 at a start node
abbrev pub start_flag : List ℕ → ℕ → ℕ
start_flag = Forms.start_flag plain

-- the first edge record of node s
abbrev pub first_edge : List ℕ → ℕ → ℕ
first_edge = Forms.first_edge plain

-- the node that edge record x leads to, and the record after it
abbrev pub target : List ℕ → ℕ → ℕ
target = Forms.target plain

abbrev pub next_edge : List ℕ → ℕ → ℕ
next_edge = Forms.next_edge plain

-- the edge records of node s
abbrev pub edges_of : List ℕ → ℕ → List ℕ
edges_of = Forms.edges_of plain

-- the structure
unfoldable pub kripke : List ℕ → Kripke
unfolding Forms.kripke
kripke = Forms.kripke plain

-- the questions headed Machine, put to the machine sheet of number i among the sheets of a call
unfoldable pub machine_questions : ℕ → List ℕ → List Question
unfolding Forms.machine_questions
machine_questions i M = Forms.machine_questions plain M i

-- the number of the question that refuses a machine sheet; 0, and the sheet is accepted, where none does
abbrev pub machine_refusal : List ℕ → ℕ
machine_refusal M = (first_no (machine_questions 1 M)).number
