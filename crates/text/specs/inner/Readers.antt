-- A text read byte by byte: what a reader's state says of the reading of the bytes that are left.
use Rattle.std.specs.Prelude.{◌≡◌, ℕ, ◌+◌, List, [], ◌∷◌, false, cond, length}
use Rattle.text.specs.Texts.{Read, fault, with_word, gap, number, reading, next, commented}
use Rattle.text.specs.declared.read.Place.{Place}
use Rattle.text.specs.declared.read.Kind.{Kind}
use Rattle.text.specs.declared.reader.State.{State}
use Rattle.text.specs.declared.reader.State.TheVariants.{Gap, Number, Stopped}
use Rattle.text.specs.declared.reader.Reader.{Reader}

-- the reading of a text without comments, from a state on
unfoldable pub from : State → List ℕ → ℕ → Place → Read
from Gap text room at = reading text gap room at
from (Number first n) text room at = reading text (number first n) room at
from (Stopped kind there) text room at = fault kind there

-- the word that a state holds
unfoldable pub held : State → List ℕ
held Gap = []
held (Number first n) = n ∷ []
held (Stopped kind there) = []

-- the word that is whole where one state follows another
unfoldable pub ended : State → State → List ℕ
ended before Gap = held before
ended before (Number first n) = []
ended before (Stopped kind there) = held before

-- what is read with words before it
unfoldable pub with_words : List ℕ → Read → Read
with_words [] read = read
with_words (w ∷ ws) read = with_word w (with_words ws read)

-- the state after a byte: the same reading of whatever follows, and the room for words
pub record Moves (before : Reader) (b : ℕ) (r : Reader) : Type 0 where
  pub reads : (text : List ℕ) → from before.state (b ∷ text) before.room before.at
      ≡ with_words (ended before.state r.state) (from r.state text r.room (next before.at b))
  pub counts : length (ended before.state r.state) + length (held r.state) + r.room ≡ length (held before.state) + before.room

-- a reader before the first byte
abbrev pub start_of : ℕ → Reader
start_of room = record { comment = false; at = record { line = 1; column = 1 }; room = room; state = Gap }

-- a reader at a fault
abbrev pub stopped_at : Reader → Kind → Place → Reader
stopped_at before kind there = record { comment = before.comment; at = before.at; room = before.room; state = Stopped kind there }

-- a reader after one byte more: a byte of a comment counts as a space
pub record Steps (before : Reader) (byte : ℕ) (r : Reader) : Type 0 where
  pub comment : r.comment ≡ commented before.comment byte
  pub at : r.at ≡ next before.at (cond (commented before.comment byte) 32 byte)
  pub moves : Moves before (cond (commented before.comment byte) 32 byte) r
