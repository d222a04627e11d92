-- The numbers of a program's refusal: 0 0 for bytes that are no sheets, else those of the question that says no. And what a program answers
-- where a call answers its sheets.
use Rattle.std.specs.Prelude.{◌≡◌, ℕ, Result, Ok, Err}
use Rattle.sheets.specs.Questions as Questions
use Rattle.sheets.specs.Refusals as Sheets
use Rattle.sheets.specs.declared.refusal.Refusal.{Refusal}
use Rattle.input.specs.declared.refused.Refused.{Refused}
use Rattle.input.specs.declared.refused.Refused.TheVariants.{Bytes, Question}

abbrev pub number_of : Refused → ℕ
number_of Bytes = 0
number_of (Question refusal) = Sheets.number_of refusal

abbrev pub sheet_of : Refused → ℕ
sheet_of Bytes = 0
sheet_of (Question refusal) = Sheets.sheet_of refusal

-- what an answer refuses with; an answer that is none refuses nothing
abbrev pub refusal_of : {A : Type 0} → Result A Refused → Questions.Refusal
refusal_of (Ok answer) = Questions.none
refusal_of (Err refused) = record { number = number_of refused; sheet = sheet_of refused }

-- a call's answer as the program's
abbrev pub of_call : {A : Type 0} → Result A Refusal → Result A Refused
of_call (Ok answer) = Ok answer
of_call (Err refusal) = Err (Question refusal)

-- the program's answer is that of a call which answers so
pub record Asked {A : Type 0} (Answers : Result A Refusal → Type 0) (answer : Result A Refused) : Type 0 where
  pub call : Result A Refusal
  pub answers : Answers call
  pub told : answer ≡ of_call call
