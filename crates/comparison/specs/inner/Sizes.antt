-- The sizes of comparison's tables. The code has them in sizes.rt.
use Rattle.std.specs.Prelude.{ℕ}
use Rattle.truth.specs.Sizes.{table_rows, table_words}

-- the space in which lines are written: its words, and the lines that it has room for
abbrev pub written_space : ℕ
written_space = 5632

abbrev pub written_most : ℕ
written_most = 938

-- a table with a place for each number of a line
abbrev pub line_places : ℕ
line_places = 1024

-- a table with a place for each block, and one with a row for each block
abbrev pub block_places : ℕ
block_places = table_rows

abbrev pub block_words : ℕ
block_words = table_words
