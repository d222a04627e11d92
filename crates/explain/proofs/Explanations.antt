-- The comparison's answer as what is said of two sheets: refused and equal as they are; unequal, with the verdict on the written rule.
use Rattle.std.specs.Prelude.{Some, None, Ok, Err}
use mathlib.Core.Path.{◌≡◌, subst}
use native.Mathlib.Omega.{arith}
use Prim.Native.Nat.{ℕ, ◌+◌, ◌*◌, ◌≤◌}
use mathlib.Core.List.{List}
use lib.ListN.{length, take}
use Rattle.sheets.specs.Format.{line_words, next_head}
use Rattle.sheets.specs.declared.refusal.Refusal.{Refusal}
use Rattle.sheets.specs.Rules.{lines}
use Rattle.comparison.specs.Comparison.{Written}
use Rattle.comparison.specs.CompareAnswers.{CompareAnswer, Leaves}
use Rattle.comparison.specs.declared.compare.Answer.TheVariants.{Equal, Unequal}
use Rattle.explain.specs.Verdicts.{Telling, Judged}
use Rattle.explain.specs.Program.{Explained}
use Rattle.explain.specs.declared.verdict.Verdict.{Verdict}
use Rattle.explain.proofs.WrittenRules.{rule-within, rule-whole, telling}

module _ (M₁ M₂ before after : List ℕ) where
  pub explained-refused : (refusal : Refusal) → CompareAnswer M₁ M₂ before after (Err refusal) → Explained M₁ M₂ before after (Err refusal)
  explained-refused refusal c = record { compared = c; judged = λ v e. absurd (let z : ◌≡◌ {A = ℕ} 0 1 = cc in omega arith) }

  pub explained-equal : CompareAnswer M₁ M₂ before after (Ok Equal) → Explained M₁ M₂ before after (Ok None)
  explained-equal c = record { compared = c; judged = λ v e. absurd (let z : ◌≡◌ {A = ℕ} 0 1 = cc in omega arith) }

  module _ (told : CompareAnswer M₁ M₂ before after (Ok Unequal)) (end : ℕ) (ends : end ≡ next_head + line_words * lines after) where
    stood : (R : List ℕ) × Written M₁ M₂ R before after
    unfolding Leaves
    stood = told.leaves

    abbrev rule : List ℕ
    rule = stood.0

    written : Written M₁ M₂ rule before after
    written = stood.1

    pub told-within : end ≤ length after
    told-within = rule-within M₁ M₂ rule before after written end ends

    whole : take end after ≡ rule
    whole = rule-whole M₁ M₂ rule before after written end ends

    -- what the verdict needs of the rule
    pub told-rule : Telling M₁ M₂ (take end after)
    told-rule = rw whole (telling M₁ M₂ rule before after written told.refusal)

    pub explained-unequal : (v : Verdict) → Judged M₁ M₂ (take end after) v → Explained M₁ M₂ before after (Ok (Some v))
    explained-unequal v j = record {
      compared = told;
      judged = λ v' e. let same : v ≡ v' = cc in (rule, written, subst (Judged M₁ M₂ rule) same (rw whole at j));
    }
