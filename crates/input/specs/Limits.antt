-- How much the programs take and lend: words and bytes of sheets, bytes of a text, words of a written rule.
use Rattle.std.specs.Prelude.{ℕ, ◌*◌}
use Rattle.sheets.specs.Format.{sheets_longest, rule_space_longest}
pub use Rattle.sheets.specs.Format.{nodes_most, rule_space}

-- the longest machine sheet with the longest rule sheet; one sheet alone may be as long
abbrev pub sheets_words : ℕ
sheets_words = sheets_longest

abbrev pub sheets_bytes : ℕ
sheets_bytes = 2 * sheets_words

-- two machine sheets that are compared; document 01: "at most 20,000 bytes"
abbrev pub machines_words : ℕ
machines_words = 10000

abbrev pub machines_bytes : ℕ
machines_bytes = 2 * machines_words

-- the text of a sheet
abbrev pub text_bytes : ℕ
text_bytes = 200000

-- the longest written rule
abbrev pub rule_words : ℕ
rule_words = rule_space_longest
