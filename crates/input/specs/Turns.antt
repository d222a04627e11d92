-- A sheet as text and as bytes.
use Rattle.std.specs.Prelude.{ℕ, ◌%◌, List, ◌++◌, Result, Ok, Err, ok_or, cond, length, drop, ltb, eqb}
use Rattle.text.specs.Texts.{Read, words, fault, reading_of}
use Rattle.text.specs.Layout.{written_of, text_left}
use Rattle.input.specs.Limits.{sheets_words, sheets_bytes, text_bytes}
use Rattle.input.specs.Bytes.{words_of, bytes_of}
use Rattle.input.specs.declared.turn.TurnError.{TurnError}
use Rattle.input.specs.declared.turn.TurnError.TheVariants.{Fault, LongText, LongSheet, Odd, NoRoom}

-- the answer, and the lent bytes after it
pub record Turn : Type 0 where
  pub answer : Result ℕ TurnError
  pub left : List ℕ

-- a refusal leaves the lent bytes as they were
unfoldable pub refused : TurnError → List ℕ → Turn
refused error lent = record { answer = Err error; left = lent }

-- bytes at the head of the lent ones
unfoldable pub done : List ℕ → List ℕ → Turn
done bytes lent = record { answer = Ok (length bytes); left = bytes ++ drop (length bytes) lent }

unfoldable pub of_read : Read → List ℕ → Turn
of_read (words ws) lent = done (bytes_of ws) lent
of_read (fault kind at) lent = refused (Fault (record { kind = kind; at = at })) lent

-- a text that is not too long as bytes, with space for a whole sheet
unfoldable pub to_bytes : List ℕ → List ℕ → Turn
to_bytes text lent =
    cond (ltb text_bytes (length text)) (refused LongText lent) (cond (ltb (length lent) sheets_bytes) (refused NoRoom lent) (of_read (reading_of sheets_words text) lent))

-- an even number of bytes, at most a whole sheet, as text
unfoldable pub to_text : List ℕ → List ℕ → Turn
to_text sheet lent =
    cond (ltb sheets_bytes (length sheet)) (refused LongSheet lent)
    (cond (eqb (length sheet % 2) 1) (refused Odd lent)
    (record { answer = ok_or (written_of (words_of sheet) lent) NoRoom; left = text_left (words_of sheet) lent }))
