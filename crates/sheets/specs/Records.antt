-- A chain is read record by record: what stands at a record, in the form that the code hands out.
use Rattle.std.specs.Prelude.{ℕ, ◌+◌, ◌-◌, ◌*◌, List}
use Rattle.sheets.specs.Words.{word}
use Rattle.sheets.specs.declared.walker.Record.{Record}

-- word k of record x among records of `width` words from the index `base` on; records count from 1
unfoldable pub record_word : List ℕ → ℕ → ℕ → ℕ → ℕ → ℕ
unfolding word
record_word ws base width x k = word ws (base + width * (x - 1) + k)

-- Record x, where `read x k` is its word k: its number, its first two words, and its link, which is its last word in every kind of
-- record that has one.
abbrev pub record_at : (ℕ → ℕ → ℕ) → ℕ → ℕ → Record
record_at read width x = record { number = x; first = read x 0; second = read x 1; next = read x (width - 1) }
