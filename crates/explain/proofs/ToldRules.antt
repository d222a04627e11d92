-- A rule that exactly one of two machines keeps: the verdict by the start node where each breaks it.
use Rattle.std.specs.Prelude.{Option, Some, None, IsSome}
use mathlib.Core.Path.{◌≡◌, refl}
use mathlib.Core.Logic.{⊎_elim}
use Prim.Native.Nat.{ℕ}
use mathlib.Core.List.{List}
use native.Mathlib.Omega.{arith}
use Rattle.sheets.specs.Rules.{lent}
use Rattle.sheets.specs.declared.refusal.Side.TheVariants.{First, Second}
use Rattle.truth.specs.Truth.{Keeps}
use Rattle.truth.specs.Breaks.{BreaksAt, FirstBreak}
use Rattle.comparison.specs.Comparison.{ToldApart}
use Rattle.explain.specs.Verdicts.{Judged}

module _ (M₁ M₂ R : List ℕ) (apart : ToldApart M₁ M₂ R) where
  pub judged-first : (s : ℕ) → BreaksAt M₂ R s → Judged M₁ M₂ R (record { keeper = First; node = s })
  unfolding ToldApart Keeps
  judged-first s broken = record {
    first = λ e. (⊎_elim (λ h. h.0) (λ h. absurd (broken.untrue (h.1 s broken.start))) apart, broken);
    second = λ e. absurd (let z : ◌≡◌ {A = ℕ} 0 1 = cc in omega arith);
  }

  -- where the second keeps the rule, the first breaks it
  pub not-both : Keeps lent M₂ R → Keeps lent M₁ R → ⊥
  unfolding ToldApart
  not-both second first = ⊎_elim (λ h. h.1 second) (λ h. h.0 first) apart

  pub judged-second : (t : ℕ) → Keeps lent M₂ R → BreaksAt M₁ R t → Judged M₁ M₂ R (record { keeper = Second; node = t })
  judged-second t kept broken = record {
    first = λ e. absurd (let z : ◌≡◌ {A = ℕ} 0 1 = cc in omega arith);
    second = λ e. (kept, broken);
  }

-- a machine that doesn't keep a rule breaks it at some start node
pub some-break : (M R : List ℕ) (o : Option ℕ) → FirstBreak M R o → (Keeps lent M R → ⊥) → IsSome o
some-break M R None kept n = absurd (n kept)
some-break M R (Some s) broken n = refl
