-- An answer that is no refusal is the call's.
use Rattle.std.specs.Prelude.{◌≡◌, Result, Ok, Err}
use Rattle.std.proofs.Common.{ℕ, arith}
use Rattle.sheets.specs.declared.refusal.Refusal.{Refusal}
use Rattle.input.specs.declared.refused.Refused.{Refused}
use Rattle.input.specs.Refusals.{of_call, Asked}

pub call-answered : {A : Type 0} (call : Result A Refusal) {a : A} → of_call call ≡ Ok a → call ≡ Ok a
call-answered (Ok b) e = cc
call-answered (Err refusal) e = absurd (let z : ◌≡◌ {A = ℕ} 0 1 = cc in omega arith)

-- what an answer says of the call, from what says more of it
pub asked-by : {A : Type 0} {More Answers : Result A Refusal → Type 0} {answer : Result A Refused} → Asked More answer
    → ((said : Result A Refusal) → More said → Answers said) → Asked Answers answer
asked-by h f = record { call = h.call; answers = f h.call h.answers; told = h.told }
