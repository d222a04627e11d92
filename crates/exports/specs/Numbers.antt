-- An answer as the numbers that a C caller gets. The question is 0 where nothing is refused, and a number that an answer does not tell is 0.
use Rattle.std.specs.Prelude.{◌≡◌, ℕ, Option, Some, None, Result, Ok, Err}
use Rattle.sheets.specs.Words.{indicator}
use Rattle.sheets.specs.Refusals.{number_of, sheet_of}
use Rattle.sheets.specs.declared.refusal.Refusal.{Refusal}
use Rattle.truth.specs.declared.labelling.Labelled.{Labelled}
use Rattle.truth.specs.declared.path.Shown.{Shown}
use Rattle.comparison.specs.declared.compare.Answer.{Answer}
use Rattle.comparison.specs.declared.compare.Answer.TheVariants.{Equal, Unequal}

-- the numbers are those of an answer that the call may give
pub record Told {A N : Type 0} (Answers : A → Type 0) (numbers_of : A → N) (numbers : N) : Type 0 where
  pub answer : A
  pub answered : Answers answer
  pub told : numbers ≡ numbers_of answer

-- labelling: the question and its sheet, or whether the rule is kept, 1 or 0, the count and the percent
pub record LabelNumbers : Type 0 where
  pub question : ℕ
  pub sheet : ℕ
  pub kept : ℕ
  pub count : ℕ
  pub percent : ℕ

unfoldable pub label_numbers : Result Labelled Refusal → LabelNumbers
unfolding indicator
label_numbers (Err refusal) = record { question = number_of refusal; sheet = sheet_of refusal; kept = 0; count = 0; percent = 0 }
label_numbers (Ok found) = record { question = 0; sheet = 0; kept = indicator found.kept; count = found.count; percent = found.percent }

-- a path: the question and its sheet, or the length of the list, 0 where there is no path, and the back index
pub record PathNumbers : Type 0 where
  pub question : ℕ
  pub sheet : ℕ
  pub size : ℕ
  pub back : ℕ

abbrev pub path_numbers : Result (Option Shown) Refusal → PathNumbers
path_numbers (Err refusal) = record { question = number_of refusal; sheet = sheet_of refusal; size = 0; back = 0 }
path_numbers (Ok None) = record { question = 0; sheet = 0; size = 0; back = 0 }
path_numbers (Ok (Some shown)) = record { question = 0; sheet = 0; size = shown.length; back = shown.back }

-- a comparison: the question and its sheet, or 0 where the two are equal and 1 where they are not
pub record CompareNumbers : Type 0 where
  pub question : ℕ
  pub sheet : ℕ
  pub unequal : ℕ

abbrev pub compare_numbers : Result Answer Refusal → CompareNumbers
compare_numbers (Err refusal) = record { question = number_of refusal; sheet = sheet_of refusal; unequal = 0 }
compare_numbers (Ok Equal) = record { question = 0; sheet = 0; unequal = 0 }
compare_numbers (Ok Unequal) = record { question = 0; sheet = 0; unequal = 1 }
