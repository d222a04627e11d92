-- Comparison decides: for sheets and a space that no question refuses, the answer is "equal" exactly where the two machines are equal, and
-- "unequal" exactly where they are not. So it is of every answer that the contract of `compare` allows.
use mathlib.Core.Path.{◌≡◌, refl, sym, ap, ◌∙◌}
use mathlib.Core.Logic.{◌↔◌}
use Prim.Native.Nat.{ℕ}
use native.Mathlib.Omega.{arith}
use mathlib.Core.List.{List}
use lib.ListN.{length}
use Rattle.std.specs.Prelude.{Result, Ok, Err}
use Rattle.truth.specs.Passed as Questions
use Rattle.truth.specs.Passed.{refusal_of}
use Rattle.truth.specs.Passed.{Refused as Refusal}
use Rattle.truth.proofs.Passed.{numbered}
use Rattle.truth.specs.Passed.{first_no}
use Rattle.comparison.specs.Comparison as Comparison
use Rattle.comparison.specs.CompareAnswers.{comparison_questions, Leaves, CompareAnswer}
use Rattle.comparison.specs.declared.compare.Answer.{Answer}
use Rattle.comparison.specs.declared.compare.Answer.TheVariants.{Equal, Unequal}
use Rattle.comparison.proofs.Outcome.{never_both}

module _ (M₁ M₂ : List ℕ) where
  pub record Decides (answer : Result Answer Refusal) : Type 0 where
    pub equal : (answer ≡ Ok Equal) ↔ Comparison.Equal M₁ M₂
    pub unequal : (answer ≡ Ok Unequal) ↔ (Comparison.Equal M₁ M₂ → ⊥)

  -- the two answers are not one
  apart : (◌≡◌ {A = Result Answer Refusal} (Ok Unequal) (Ok Equal)) → ⊥
  apart e = let z : ◌≡◌ {A = ℕ} 0 1 = cc in omega arith

  by_equal : Comparison.Equal M₁ M₂ → Decides (Ok Equal)
  by_equal same = record { equal = (λ e. same, λ s. refl); unequal = (λ e. absurd (apart (sym e)), λ n. absurd (n same)) }

  by-unequal : (Comparison.Equal M₁ M₂ → ⊥) → Decides (Ok Unequal)
  by-unequal other = record { equal = (λ e. absurd (apart e), λ s. absurd (other s)); unequal = (λ e. other, λ n. refl) }

  module _ (before after : List ℕ) (accepted : (first_no (comparison_questions M₁ M₂ (length before))).number ≡ 0) where
    by_answer : (answer : Result Answer Refusal) → refusal_of answer ≡ first_no (comparison_questions M₁ M₂ (length before)) → Leaves M₁ M₂ before after answer → Decides answer
    unfolding Leaves
    by_answer (Err refusal) e l = absurd (numbered refusal (ap (λ (r : Questions.Refusal). r.number) e ∙ accepted))
    by_answer (Ok Equal) e l = by_equal l.0
    by_answer (Ok Unequal) e l = let w = l.1 in by-unequal (never_both M₁ M₂ l.0 w.accepted w.over₁ w.apart)

    pub decides : (answer : Result Answer Refusal) → CompareAnswer M₁ M₂ before after answer → Decides answer
    decides answer c = by_answer answer c.refusal c.leaves
