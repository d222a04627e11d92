-- What is told of one sheet that is checked: `accepted`, or `refused Q S` by the first question that says no. Document 01: "The two sheet
-- checks alone ask 1 to 6, or 7 to 15."
use Rattle.std.specs.Prelude.{◌≡◌, ℕ, ◌≤◌, ◌<◌, List, [], ◌∷◌, Result, Ok, Err, true, false, length}
use Rattle.sheets.specs.Questions.{Question}
use Rattle.sheets.specs.Machine.{machine_questions}
use Rattle.sheets.specs.Rules.{lent, rule_questions}
use Rattle.sheets.specs.CheckAnswers.{Answered}
use Rattle.sheets.specs.declared.refusal.Refusal as Refusals
use Rattle.text.specs.Lines.{Holds}
use Rattle.text.specs.Texts as Texts
use Rattle.text.specs.declared.read.Fault as Faults
use Rattle.input.specs.Limits.{sheets_words, sheets_bytes, text_bytes}
use Rattle.input.specs.Bytes.{readable, words_of}
use Rattle.input.specs.Lines.{refused_line}
use Rattle.input.specs.Refusals.{number_of, sheet_of}
use Rattle.input.specs.declared.refused.Refused.{Refused}
use Rattle.input.specs.declared.refused.Refused.TheVariants as Why
use Rattle.input.specs.declared.turn.TurnError.TheVariants.{Fault, LongText}
use Rattle.sheet.specs.declared.answer.Sort.{Sort}
use Rattle.sheet.specs.declared.answer.Sort.TheVariants.{Machine, Rules}
use Rattle.sheet.specs.declared.answer.Form.{Form}
use Rattle.sheet.specs.declared.answer.Form.TheVariants.{Bytes, Text}
use Rattle.sheet.specs.declared.answer.Check.{Check}
use Rattle.sheet.specs.declared.answer.NotAccepted.{NotAccepted}
use Rattle.sheet.specs.declared.answer.NotAccepted.TheVariants as Says
use Rattle.sheet.specs.declared.answer.Told as Told·

-- an answer, and a check's refusal as a program's
abbrev pub Answer : Type 0
Answer = Result (Unit {0}) NotAccepted

abbrev pub by_question : Result (Unit {0}) Refusals.Refusal → Result (Unit {0}) Refused
by_question (Ok u) = Ok u
by_question (Err refusal) = Err (Why.Question refusal)

abbrev pub by_refusal : Result (Unit {0}) Refused → Answer
by_refusal (Ok u) = Ok u
by_refusal (Err refused) = Err (Says.Refused refused)

-- the questions that are put to a sheet's words
unfoldable pub questions : Sort → List ℕ → List Question
unfolding machine_questions rule_questions
questions Machine words = machine_questions 1 words
questions Rules words = rule_questions lent words

-- the answer to a sheet's bytes; more than the longest machine sheet with the longest rule sheet has, or an odd number, are refused as
-- question 0
pub data CheckedBytes (sort : Sort) (bytes : List ℕ) : Result (Unit {0}) Refused → Type 0 where
  unreadable : readable sheets_bytes (length bytes) ≡ false → CheckedBytes sort bytes (Err Why.Bytes)
  words : {check : Result (Unit {0}) Refusals.Refusal} → readable sheets_bytes (length bytes) ≡ true
      → Answered (questions sort (words_of bytes)) check → CheckedBytes sort bytes (by_question check)

-- the answer to a sheet's text, which may be too long
pub data CheckedText (sort : Sort) (text : List ℕ) : Answer → Type 0 where
  long : text_bytes < length text → CheckedText sort text (Err (Says.Text LongText))
  fault : {found : Faults.Fault} → length text ≤ text_bytes → Texts.reading_of sheets_words text ≡ Texts.fault found.kind found.at
      → CheckedText sort text (Err (Says.Text (Fault found)))
  words : {ws : List ℕ} {check : Result (Unit {0}) Refusals.Refusal} → length text ≤ text_bytes
      → Texts.reading_of sheets_words text ≡ Texts.words ws → Answered (questions sort ws) check
      → CheckedText sort text (by_refusal (by_question check))

-- the answer to the bytes of standard input, as the sheet's text or as its bytes
pub data Checked (sort : Sort) : Form → List ℕ → Answer → Type 0 where
  as_text : {input : List ℕ} {answer : Answer} → CheckedText sort input answer → Checked sort Text input answer
  as_bytes : {input : List ℕ} {check : Result (Unit {0}) Refused} → CheckedBytes sort input check → Checked sort Bytes input (by_refusal check)

-- the line of an answer, in ASCII; no line where the input is no sheet's text
unfoldable pub line_bytes : Answer → List ℕ
unfolding refused_line
line_bytes (Ok u) = 97 ∷ 99 ∷ 99 ∷ 101 ∷ 112 ∷ 116 ∷ 101 ∷ 100 ∷ 10 ∷ []
line_bytes (Err (Says.Refused refused)) = refused_line (number_of refused) (sheet_of refused)
line_bytes (Err (Says.Text error)) = []

-- what is told: the answer to the input, and its line
pub record Told (check : Check) (input : List ℕ) (told : Told·.Told) : Type 0 where
  pub answered : Checked check.sort check.form input told.answer
  pub held : Holds told.line (line_bytes told.answer)
