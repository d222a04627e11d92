-- The answer to two sheets, from what comparison says.
use Rattle.std.specs.Prelude.{Result, Ok, Err}
use mathlib.Core.Path.{◌≡◌, subst}
use Prim.Native.Nat.{ℕ, ◌≤◌}
use native.Mathlib.Omega.{arith}
use mathlib.Core.List.{List}
use lib.ListN.{length}
use Rattle.comparison.specs.CompareAnswers.{Leaves, CompareAnswer}
use Rattle.comparison.specs.declared.compare.Answer.{Answer}
use Rattle.comparison.specs.declared.compare.Answer.TheVariants.{Equal, Unequal}
use Rattle.comparison.proofs.Outcome.{never_both}
use Rattle.input.specs.Limits.{rule_words}
use Rattle.input.specs.Refusals.{number_of, of_call}
use Rattle.input.specs.declared.refused.Refused.{Refused}
use Rattle.input.specs.declared.refused.Refused.TheVariants.{Question}
use Rattle.sheets.specs.Refusals as Why
use Rattle.sheets.specs.declared.refusal.Refusal.{Refusal}
use Rattle.compare.specs.Program.{refusal, Compared}

module _ (M₁ M₂ before after : List ℕ) (room : length before ≡ rule_words) where
  by_answer : (call : Result Answer Refusal) → Why.refusal_of call ≡ refusal M₁ M₂ → Leaves M₁ M₂ before after call → Compared M₁ M₂ (of_call call)
  unfolding Leaves
  by_answer (Err why) e l = record {
    asked = e;
    refused = λ why' same. let s : Question why ≡ why' = cc in subst (λ (w : Refused). 1 ≤ number_of w) s l.0;
    equal = λ same. absurd (let z : ◌≡◌ {A = ℕ} 0 1 = cc in omega arith);
    unequal = λ same. absurd (let z : ◌≡◌ {A = ℕ} 0 1 = cc in omega arith);
  }
  by_answer (Ok Equal) e l = record {
    asked = e;
    refused = λ why same. absurd (let z : ◌≡◌ {A = ℕ} 0 1 = cc in omega arith);
    equal = λ same. l.0;
    unequal = λ same. absurd (let z : ◌≡◌ {A = ℕ} 0 1 = cc in omega arith);
  }
  by_answer (Ok Unequal) e l = let w = l.1 in record {
    asked = e;
    refused = λ why same. absurd (let z : ◌≡◌ {A = ℕ} 0 1 = cc in omega arith);
    equal = λ same. absurd (let z : ◌≡◌ {A = ℕ} 0 1 = cc in omega arith);
    unequal = λ same. never_both M₁ M₂ l.0 w.accepted w.over₁ w.apart;
  }

  pub compared : (call : Result Answer Refusal) → CompareAnswer M₁ M₂ before after call → Compared M₁ M₂ (of_call call)
  unfolding refusal
  compared call c = by_answer call (rw room at c.refusal) c.leaves
