-- Where a machine breaks a rule.
use Rattle.std.specs.Prelude.{◌≡◌, ℕ, ◌<◌, List, Bool, false, T, Option, MatchOption}
use Rattle.sheets.specs.Machine.{kripke}
use Rattle.sheets.specs.Rules.{lent, lines}
use Rattle.truth.specs.Truth.{TrueAt, Keeps}
use Rattle.truth.specs.Labelling.{StartsIn}

-- s is the first start node of M, by number, that does not pass
pub record OutsideAt (M : List ℕ) (p : ℕ → Bool) (s : ℕ) : Type 0 where
  pub start : T ((kripke M).start s)
  pub outside : p s ≡ false
  pub earlier : (t : ℕ) → t < s → T ((kripke M).start t) → T (p t)

-- o is that node, or None where every start node passes
abbrev pub FirstOutside : List ℕ → (ℕ → Bool) → Option ℕ → Type 0
FirstOutside M p o = MatchOption o (StartsIn M p) (λ s. OutsideAt M p s)

-- s is the first start node of M, by number, at which the last line of R is not true
pub record BreaksAt (M R : List ℕ) (s : ℕ) : Type 0 where
  pub start : T ((kripke M).start s)
  pub untrue : TrueAt lent M R (lines R) s → ⊥
  pub earlier : (t : ℕ) → t < s → T ((kripke M).start t) → TrueAt lent M R (lines R) t

-- o is that node, or None where M keeps the rule
abbrev pub FirstBreak : List ℕ → List ℕ → Option ℕ → Type 0
FirstBreak M R o = MatchOption o (Keeps lent M R) (λ s. BreaksAt M R s)
