-- The format of both kinds of sheet, in numbers: limits, the words of each record and the places of its parts, where the records of a kind
-- begin, how long a sheet is, and the longest sheets. Each stands here once, and all other definitions cite it.
use Rattle.std.specs.Prelude.{ℕ, ◌+◌, ◌*◌, List, [], ◌∷◌}
use Rattle.sheets.specs.declared.format.NodeForm.{NodeForm}

-- ---- limits: nodes, signals and edges of a machine

abbrev pub nodes_most : ℕ
nodes_most = 128

abbrev pub signals_most : ℕ
signals_most = 16

abbrev pub edges_most : ℕ
edges_most = 2048

-- automata, states, transitions and lines of a rule sheet

abbrev pub automata_most : ℕ
automata_most = 16

abbrev pub states_most : ℕ
states_most = 256

abbrev pub transitions_most : ℕ
transitions_most = 1024

abbrev pub lines_most : ℕ
lines_most = 1024

-- variables and states of one automaton

abbrev pub variables_most : ℕ
variables_most = 4

abbrev pub chained_most : ℕ
chained_most = 16

-- the bits of a word
abbrev pub word_bits : ℕ
word_bits = 16

-- ---- the words of the two headers, and those of a record of each kind but a node's

abbrev pub machine_header : ℕ
machine_header = 3

abbrev pub rule_header : ℕ
rule_header = 4

abbrev pub edge_words : ℕ
edge_words = 2

abbrev pub automaton_words : ℕ
automaton_words = 2

abbrev pub state_words : ℕ
state_words = 3

abbrev pub transition_words : ℕ
transition_words = 3

abbrev pub line_words : ℕ
line_words = 6

-- the node record of a plain machine sheet: its words, and the places of its signals, its start flag and its first edge
abbrev pub plain : NodeForm
plain = record { words = 3; signals = 0; flag = 1; first = 2 }

-- ---- the places of the parts of the other records: an edge's

abbrev pub edge_target_place : ℕ
edge_target_place = 0

abbrev pub edge_next_place : ℕ
edge_next_place = 1

-- an automaton's

abbrev pub variables_place : ℕ
variables_place = 0

abbrev pub initial_place : ℕ
initial_place = 1

-- a state's

abbrev pub accepting_place : ℕ
accepting_place = 0

abbrev pub first_transition_place : ℕ
first_transition_place = 1

abbrev pub next_state_place : ℕ
next_state_place = 2

-- a transition's

abbrev pub transition_target_place : ℕ
transition_target_place = 0

abbrev pub mask_place : ℕ
mask_place = 1

abbrev pub next_transition_place : ℕ
next_transition_place = 2

-- a line's: its operation, and the first of its operands, which follow one another

abbrev pub operation_place : ℕ
operation_place = 0

abbrev pub operand_place : ℕ
operand_place = 1

-- of a path line the automaton is the first, and the lines of its variables, from 0, follow it
abbrev pub argument_place : ℕ → ℕ
argument_place i = operand_place + 1 + i

-- the words of a line record in their order: its operation, two operands, and zeros for those that are unused
abbrev pub line_record : ℕ → ℕ → ℕ → List ℕ
line_record op x y = op ∷ x ∷ y ∷ 0 ∷ 0 ∷ 0 ∷ []

-- ---- where the records of a kind begin, and how long a sheet is: n nodes and e edges of a machine

abbrev pub edges_from : NodeForm → ℕ → ℕ
edges_from F n = machine_header + F.words * n

abbrev pub form_length : NodeForm → ℕ → ℕ → ℕ
form_length F n e = edges_from F n + edge_words * e

abbrev pub machine_length : ℕ → ℕ → ℕ
machine_length = form_length plain

-- k automata, m states, e transitions and l lines of a rule sheet, whose line records have so many words

abbrev pub states_from : ℕ → ℕ
states_from k = rule_header + automaton_words * k

abbrev pub transitions_from : ℕ → ℕ → ℕ
transitions_from k m = states_from k + state_words * m

abbrev pub lines_from : ℕ → ℕ → ℕ → ℕ
lines_from k m e = transitions_from k m + transition_words * e

abbrev pub rules_length : ℕ → ℕ → ℕ → ℕ → ℕ → ℕ
rules_length words k m e l = lines_from k m e + words * l

-- ---- the longest sheets, and both together

abbrev pub machine_longest : ℕ
machine_longest = machine_length nodes_most edges_most

abbrev pub rules_longest : ℕ
rules_longest = rules_length line_words automata_most states_most transitions_most lines_most

abbrev pub sheets_longest : ℕ
sheets_longest = machine_longest + rules_longest

-- ---- a written rule: the states and transitions of its one automaton, Next; the words before its lines; the most lines for a signals and
-- N nodes; and the space for them

abbrev pub next_states : ℕ
next_states = 4

abbrev pub next_transitions : ℕ
next_transitions = 5

abbrev pub next_head : ℕ
next_head = lines_from 1 next_states next_transitions

abbrev pub lines_written : ℕ → ℕ → ℕ
lines_written a N = a + 7 * N

abbrev pub rule_space : ℕ → ℕ → ℕ
rule_space a N = next_head + line_words * lines_written a N

abbrev pub rule_space_longest : ℕ
rule_space_longest = rule_space signals_most nodes_most
