-- A short line of bytes, as a value: an array and a length.
use Rattle.std.specs.Prelude.{◌≡◌, ℕ, ◌+◌, ◌-◌, ◌≤◌, List, [], ◌∷◌, ◌++◌, cond, length, take, replicate, set, ltb}
use Rattle.text.specs.declared.line.Line.{Line}

-- the bytes that a line has room for
abbrev pub line_room : ℕ
line_room = 20

-- the bytes that a line shows: as many of its array as its length says
abbrev pub shown : Line → List ℕ
shown line = take line.len line.bytes

-- a line's array holds the text at its head and 0 past it; so the text is what it shows
pub record Holds (line : Line) (text : List ℕ) : Type 0 where
  pub len : line.len ≡ length text
  pub fits : length text ≤ line_room
  pub bytes : line.bytes ≡ text ++ replicate (line_room - length text) 0
  pub shows : shown line ≡ text

-- a line with one byte more; a full one stays as it is
unfoldable pub with_byte : Line → ℕ → Line
with_byte line byte = cond (ltb line.len line_room) (record { bytes = set line.bytes line.len byte; len = line.len + 1 }) line

-- a line with bytes more, one after the other: those that there is no place for are left out
unfoldable pub with_bytes : Line → List ℕ → Line
unfolding with_byte
with_bytes line [] = line
with_bytes line (byte ∷ more) = with_bytes (with_byte line byte) more

-- the second line is the first with `more` added
abbrev pub Adds : Line → List ℕ → Line → Type 0
Adds before more after = after ≡ with_bytes before more
