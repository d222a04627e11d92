-- A machine sheet whose node records have a given form: a Kripke structure (document 002, definition 3), and the questions headed Machine.
-- A plain machine sheet is `Machine`'s, which names these of the form `plain`.
use Rattle.std.specs.Prelude.{ℕ, ◌-◌, ◌^◌, List, [], ◌∷◌, Bool, not, ◌&&◌, length, leb, ltb, eqb}
use Rattle.sheets.specs.Format.{nodes_most, signals_most, edges_most, machine_header, edge_words, edge_target_place, edge_next_place, edges_from, form_length}
use Rattle.sheets.specs.Structures.{Kripke}
use Rattle.sheets.specs.Words.{word, bit, within, each, any_of, chain, link}
use Rattle.sheets.specs.Records.{record_word}
use Rattle.sheets.specs.Questions.{Question, ask}
use Rattle.sheets.specs.declared.format.NodeForm.{NodeForm}

-- the header: n, a and e
abbrev pub nodes : List ℕ → ℕ
nodes M = word M 0

abbrev pub signals : List ℕ → ℕ
signals M = word M 1

abbrev pub edges : List ℕ → ℕ
edges M = word M 2

-- "Are there at least 3 words, and are n, a, e in range?"
unfoldable pub q1 : List ℕ → Bool
q1 M = leb machine_header (length M) && within 1 nodes_most (nodes M) && within 1 signals_most (signals M) && within 1 edges_most (edges M)

module _ (F : NodeForm) (M : List ℕ) where
  -- word k of the record of node s, and of edge record x
  abbrev pub node_word : ℕ → ℕ → ℕ
  node_word s k = record_word M machine_header F.words s k

  abbrev pub edge_word : ℕ → ℕ → ℕ
  edge_word x k = record_word M (edges_from F (nodes M)) edge_words x k

  -- signal i at node s
  abbrev pub signal_at : ℕ → ℕ → Bool
  signal_at i s = bit (node_word s F.signals) (i - 1)

  -- the start flag of node s: 1 at a start node
  abbrev pub start_flag : ℕ → ℕ
  start_flag s = node_word s F.flag

  -- the first edge record of node s
  abbrev pub first_edge : ℕ → ℕ
  first_edge s = node_word s F.first

  -- the node that edge record x leads to, and the record after it
  abbrev pub target : ℕ → ℕ
  target x = edge_word x edge_target_place

  abbrev pub next_edge : ℕ → ℕ
  next_edge x = edge_word x edge_next_place

  -- the edge records of node s
  abbrev pub edges_of : ℕ → List ℕ
  edges_of s = chain (edges M) next_edge (first_edge s)

  -- the structure: a target met twice is one edge of R
  unfoldable pub kripke : Kripke
  unfolding any_of
  kripke = record {
    nodes = nodes M;
    signal = signal_at;
    edge = λ s t. any_of (edges_of s) (λ x. eqb (target x) t);
    start = λ s. within 1 (nodes M) s && eqb (start_flag s) 1;
  }

  -- ---- the questions

  -- "Is the length exactly 3 + 3n + 2e?"
  unfoldable pub q2 : Bool
  q2 = eqb (length M) (form_length F (nodes M) (edges M))

  -- "Are the signal bits from bit a up zero, and is each flag 0 or 1?"
  abbrev pub node_in_range : ℕ → Bool
  node_in_range s = ltb (node_word s F.signals) (2 ^ signals M) && leb (start_flag s) 1

  unfoldable pub q3 : Bool
  unfolding each
  q3 = each (nodes M) node_in_range

  -- "Is each first edge in 1 to e?"
  abbrev pub first_in_range : ℕ → Bool
  first_in_range s = within 1 (edges M) (first_edge s)

  unfoldable pub q4 : Bool
  unfolding each
  q4 = each (nodes M) first_in_range

  -- "Is each edge's target in 1 to n, and its next zero, or above its own number and at most e?"
  abbrev pub edge_in_range : ℕ → Bool
  edge_in_range x = within 1 (nodes M) (target x) && link (edges M) x (next_edge x)

  unfoldable pub q5 : Bool
  unfolding each
  q5 = each (edges M) edge_in_range

  -- "Is there a start node?"
  abbrev pub no_start : ℕ → Bool
  no_start s = eqb (start_flag s) 0

  unfoldable pub q6 : Bool
  unfolding each
  q6 = not (each (nodes M) no_start)

  -- the questions headed Machine, put to the machine sheet of number i among the sheets of a call
  unfoldable pub machine_questions : ℕ → List Question
  unfolding q1 q2 q3 q4 q5 q6
  machine_questions i = ask 1 i (q1 M) ∷ ask 2 i q2 ∷ ask 3 i q3 ∷ ask 4 i q4 ∷ ask 5 i q5 ∷ ask 6 i q6 ∷ []
