-- What the comparing program prints. Document 01: "It prints one line: `equal`, `unequal`, or `refused Q S` (number, sheet), and
-- `refused 0 0` for an odd byte count or more than 20,000 bytes."
use Rattle.std.specs.Prelude.{◌≡◌, ℕ, ◌≤◌, List, [], ◌∷◌, Result, Ok, Err}
use Rattle.truth.specs.Passed.{Refusal, first_no}
use Rattle.text.specs.Lines.{Holds}
use Rattle.text.specs.declared.line.Line.{Line}
use Rattle.input.specs.Limits.{machines_bytes, rule_words}
use Rattle.input.specs.Replies.{Reply}
use Rattle.input.specs.Lines.{refused_line}
use Rattle.input.specs.Refusals.{number_of, sheet_of, refusal_of}
use Rattle.input.specs.declared.refused.Refused.{Refused}
use Rattle.input.specs.declared.refused.Refused.TheVariants.{Bytes}
use Rattle.comparison.specs.Comparison as Comparison
use Rattle.comparison.specs.CompareAnswers.{comparison_questions}
use Rattle.comparison.specs.declared.compare.Answer.{Answer}
use Rattle.comparison.specs.declared.compare.Answer.TheVariants.{Equal, Unequal}

-- the line of each answer, in ASCII
unfoldable pub line_bytes : Result Answer Refused → List ℕ
unfolding refused_line
line_bytes (Err refused) = refused_line (number_of refused) (sheet_of refused)
line_bytes (Ok Equal) = 101 ∷ 113 ∷ 117 ∷ 97 ∷ 108 ∷ 10 ∷ []
line_bytes (Ok Unequal) = 117 ∷ 110 ∷ 101 ∷ 113 ∷ 117 ∷ 97 ∷ 108 ∷ 10 ∷ []

-- the refusal of two sheets by the first question of comparison that says no; the program's space for the rule is the longest that
-- there is, so that question 22 is never that one (theorem `never-22`)
unfoldable pub refusal : List ℕ → List ℕ → Refusal
unfolding first_no comparison_questions
refusal M₁ M₂ = first_no (comparison_questions M₁ M₂ rule_words)

-- the answer to two sheets: their refusal, or equal, or not
pub record Compared (M₁ M₂ : List ℕ) (answer : Result Answer Refused) : Type 0 where
  pub asked : refusal_of answer ≡ refusal M₁ M₂
  pub refused : (why : Refused) → answer ≡ Err why → 1 ≤ number_of why
  pub equal : answer ≡ Ok Equal → Comparison.Equal M₁ M₂
  pub unequal : answer ≡ Ok Unequal → Comparison.Equal M₁ M₂ → ⊥

-- the answer to the bytes of standard input: "`refused 0 0` for an odd byte count or more than 20,000 bytes", else that to the two sheets
abbrev pub Answered : List ℕ → Result Answer Refused → Type 0
Answered bytes answer = Reply machines_bytes bytes (answer ≡ Err Bytes) (λ (M₁ M₂ : List ℕ). Compared M₁ M₂ answer)

-- the line that is printed: that of the answer, and nothing else
pub record Printed (bytes : List ℕ) (line : Line) : Type 0 where
  pub answer : Result Answer Refused
  pub answered : Answered bytes answer
  pub held : Holds line (line_bytes answer)
