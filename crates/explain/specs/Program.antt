-- What the explaining program says of its input, and the rule that it leaves in the space.
use Rattle.std.specs.Prelude.{◌≡◌, ℕ, List, Option, Some, None, Result, Ok, Err}
use Rattle.sheets.specs.declared.refusal.Refusal.{Refusal}
use Rattle.input.specs.Limits.{machines_bytes}
use Rattle.input.specs.Replies.{Reply}
use Rattle.input.specs.Refusals.{Asked}
use Rattle.input.specs.declared.refused.Refused.{Refused}
use Rattle.input.specs.declared.refused.Refused.TheVariants.{Bytes}
use Rattle.comparison.specs.Comparison.{Written}
use Rattle.comparison.specs.CompareAnswers.{CompareAnswer}
use Rattle.comparison.specs.declared.compare.Answer.{Answer}
use Rattle.comparison.specs.declared.compare.Answer.TheVariants.{Equal, Unequal}
use Rattle.explain.specs.Verdicts.{Judged}
use Rattle.explain.specs.declared.verdict.Verdict.{Verdict}

-- what comparison alone answers: unequal where there is a verdict
abbrev pub compared_of : Result (Option Verdict) Refusal → Result Answer Refusal
compared_of (Ok None) = Ok Equal
compared_of (Ok (Some verdict)) = Ok Unequal
compared_of (Err refusal) = Err refusal

-- what is said of two sheets: the comparison's answer; unequal, a rule stands in the space on which the verdict is right
pub record Explained (M₁ M₂ before after : List ℕ) (said : Result (Option Verdict) Refusal) : Type 0 where
  pub compared : CompareAnswer M₁ M₂ before after (compared_of said)
  pub judged : (verdict : Verdict) → said ≡ Ok (Some verdict) → (R : List ℕ) × Written M₁ M₂ R before after × Judged M₁ M₂ R verdict

-- what is said of bytes: refused by 0 where they are odd in number or too many, otherwise what is said of their two sheets
abbrev pub Answered : List ℕ → List ℕ → List ℕ → Result (Option Verdict) Refused → Type 0
Answered bytes before after said =
    Reply machines_bytes bytes ((said ≡ Err Bytes) × (after ≡ before)) (λ (M₁ M₂ : List ℕ). Asked (Explained M₁ M₂ before after) said)
