-- The sizes of rows and tables, and where things stand in them. The code has them in sizes.rt.
use Rattle.std.specs.Prelude.{ℕ, ◌+◌, ◌-◌, ◌*◌, ◌^◌}
use Rattle.sheets.specs.Format.{nodes_most, lines_most, variables_most, chained_most}

-- the positions on an automaton's chain, from 0
abbrev pub positions_most : ℕ
positions_most = chained_most

-- ---- rows

-- the bits of a word of a row, the first member of its high word, its words, and its members, from 1
abbrev pub row_word_bits : ℕ
row_word_bits = 64

abbrev pub high_first : ℕ
high_first = row_word_bits + 1

abbrev pub row_words : ℕ
row_words = 2

abbrev pub members_most : ℕ
members_most = row_words * row_word_bits

-- the words of row k of a table, rows from 0
abbrev pub low_at : ℕ → ℕ
low_at k = row_words * k

abbrev pub high_at : ℕ → ℕ
high_at k = row_words * k + 1

-- ---- tables

-- a table with a row for each two positions: its rows, its words, and the row of p and p'
abbrev pub table_rows : ℕ
table_rows = positions_most * positions_most

abbrev pub table_words : ℕ
table_words = row_words * table_rows

abbrev pub cell : ℕ → ℕ → ℕ
cell p p' = positions_most * p + p'

-- a table with a row for each position: its words
abbrev pub set_words : ℕ
set_words = row_words * positions_most

-- the valuations of an automaton's variables, from 0: no more than positions, so that such a table has a row for each of them too
abbrev pub valuations_most : ℕ
valuations_most = 2 ^ variables_most

-- a table with a number for each pair of a position and a node: its numbers, and the place of (p, s)
abbrev pub pairs_most : ℕ
pairs_most = positions_most * nodes_most

abbrev pub pair_at : ℕ → ℕ → ℕ
pair_at p s = nodes_most * p + (s - 1)

-- a table with a place for each number of a node
abbrev pub node_places : ℕ
node_places = 256

-- ---- the space in which a path call labels the lines above the asked one: a row a line
abbrev pub lines_words : ℕ
lines_words = row_words * lines_most
