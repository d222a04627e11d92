-- Which of two machines keeps a rule, and where the other breaks it.
use Rattle.std.specs.Prelude.{◌≡◌, ℕ, ◌*◌, List}
use Rattle.sheets.specs.Format.{lines_most}
use Rattle.sheets.specs.Questions.{first_no}
use Rattle.sheets.specs.Rules.{lent}
use Rattle.sheets.specs.declared.refusal.Side.TheVariants.{First, Second}
use Rattle.truth.specs.Sizes.{row_words}
use Rattle.truth.specs.Truth.{Keeps}
use Rattle.truth.specs.Labelling.{label_questions}
use Rattle.truth.specs.Breaks.{BreaksAt}
use Rattle.comparison.specs.Comparison.{ToldApart}
use Rattle.explain.specs.declared.verdict.Verdict.{Verdict}

-- no question of labelling says no, with space for the rows of the most lines
unfoldable pub Labelable : List ℕ → List ℕ → Type 0
unfolding first_no label_questions
Labelable M R = (first_no (label_questions M R (row_words * lines_most))).number ≡ 0

-- a rule that can be labelled on both machines and that exactly one of them keeps
pub record Telling (M₁ M₂ R : List ℕ) : Type 0 where
  pub first : Labelable M₁ R
  pub second : Labelable M₂ R
  pub apart : ToldApart M₁ M₂ R

-- one machine keeps the rule, and the node is the first start node of the other where its last line is not true
pub record Judged (M₁ M₂ R : List ℕ) (v : Verdict) : Type 0 where
  pub first : v.keeper ≡ First → Keeps lent M₁ R × BreaksAt M₂ R v.node
  pub second : v.keeper ≡ Second → Keeps lent M₂ R × BreaksAt M₁ R v.node
