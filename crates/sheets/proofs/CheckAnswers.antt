-- Code that asks the questions of a table in order: what it answers, and that this is the answer to the table. The last questions decide
-- where those before them say yes.
use mathlib.Core.Path.{◌≡◌, refl, sym, ap, ◌∙◌}
use Prim.Native.Nat.{ℕ}
use native.Mathlib.Omega.{arith}
use mathlib.Core.List.{List, [], ◌∷◌, ◌++◌}
use mathlib.Core.Bool.{Bool, true, false, not}
use borrow.Author.Tests.{not-true, not-false}
use Rattle.std.specs.Prelude.{Result, Ok, Err}
use Rattle.std.specs.Result.{IsErrAnd}
use Rattle.sheets.specs.Questions.{Refusal, none, Question, ask, first_no}
use Rattle.sheets.specs.Refusals.{machine_number, rule_number, call_number, number_of, sheet_of, refusal_of}
use Rattle.sheets.specs.CheckAnswers.{Answered}
use Rattle.sheets.specs.declared.refusal.MachineQuestion.{MachineQuestion}
use Rattle.sheets.specs.declared.refusal.MachineQuestion.TheVariants as M
use Rattle.sheets.specs.declared.refusal.RuleQuestion.{RuleQuestion}
use Rattle.sheets.specs.declared.refusal.RuleQuestion.TheVariants as R
use Rattle.sheets.specs.declared.refusal.CallQuestion.{CallQuestion}
use Rattle.sheets.specs.declared.refusal.CallQuestion.TheVariants as C
use Rattle.sheets.specs.declared.refusal.Refusal as Why
use Rattle.sheets.specs.declared.refusal.Refusal.TheVariants.{Machine, Rules, Call}
use Rattle.sheets.proofs.Questions.{Numbered, first-table, later-table}

-- ---- a question's number is not 0

pub machine_numbered : (q : MachineQuestion) → machine_number q ≡ 0 → ⊥
machine_numbered M.Header e = absurd (omega arith)
machine_numbered M.Length e = absurd (omega arith)
machine_numbered M.Nodes e = absurd (omega arith)
machine_numbered M.FirstEdges e = absurd (omega arith)
machine_numbered M.Edges e = absurd (omega arith)
machine_numbered M.Starts e = absurd (omega arith)

pub rule_numbered : (q : RuleQuestion) → rule_number q ≡ 0 → ⊥
rule_numbered R.Header e = absurd (omega arith)
rule_numbered R.Length e = absurd (omega arith)
rule_numbered R.Automata e = absurd (omega arith)
rule_numbered R.States e = absurd (omega arith)
rule_numbered R.Transitions e = absurd (omega arith)
rule_numbered R.Chains e = absurd (omega arith)
rule_numbered R.Valuations e = absurd (omega arith)
rule_numbered R.Cycles e = absurd (omega arith)
rule_numbered R.Lines e = absurd (omega arith)

pub call_numbered : (q : CallQuestion) → call_number q ≡ 0 → ⊥
call_numbered C.Signals e = absurd (omega arith)
call_numbered C.Rows e = absurd (omega arith)
call_numbered C.PathLine e = absurd (omega arith)
call_numbered C.PathSpace e = absurd (omega arith)
call_numbered C.SameSignals e = absurd (omega arith)
call_numbered C.Together e = absurd (omega arith)
call_numbered C.RuleSpace e = absurd (omega arith)

pub numbered : (f : Why.Refusal) → number_of f ≡ 0 → ⊥
numbered (Machine side q) = machine_numbered q
numbered (Rules q) = rule_numbered q
numbered (Call q) = call_numbered q

-- ---- what the code found

pub all-said : none ≡ first_no []
unfolding first_no
all-said = refl

-- a question's function answered a: the code went on, or returned the question
pub said-yes : (k i : ℕ) (qs : List Question) {x : Refusal} {a b : Bool} → a ≡ b → not a ≡ false → x ≡ first_no qs → x ≡ first_no (ask k i b ∷ qs)
unfolding first_no
said-yes k i qs {a = a} e y f = rw (sym e ∙ not-false a y, first_no) f

pub said-no : (k i : ℕ) (qs : List Question) {a b : Bool} → a ≡ b → not a ≡ true → record { number = k; sheet = i } ≡ first_no (ask k i b ∷ qs)
unfolding first_no
said-no k i qs {a = a} e n = rw (sym e ∙ not-true a n, first_no) refl

-- where it found nothing, no question refuses
pub no_number : (qs : List Question) → none ≡ first_no qs → (first_no qs).number ≡ 0
unfolding none
no_number qs e = ap (λ (r : Refusal). r.number) (sym e)

-- a table's function found x: the code went on, or returned it
module _ (qs rs : List Question) {x : Refusal} where
  pub table_yes : Numbered qs → none ≡ first_no qs → x ≡ first_no rs → x ≡ first_no (qs ++ rs)
  unfolding none
  table_yes h z f = f ∙ sym (later-table qs rs h (no_number qs z))

  pub table_no : (x.number ≡ 0 → ⊥) → x ≡ first_no qs → x ≡ first_no (qs ++ rs)
  table_no n e = e ∙ sym (first-table qs rs (λ z. n (ap (λ (r : Refusal). r.number) e ∙ z)))

-- ---- what the code answers

abbrev number_and_sheet : Why.Refusal → Refusal
number_and_sheet f = record { number = number_of f; sheet = sheet_of f }

pub answered : {qs : List Question} {r : Result (Unit {0}) Why.Refusal} → refusal_of r ≡ first_no qs → Answered qs r
answered {r = Ok a} e = record { refusal = e; accepted = λ z. refl }
answered {r = Err f} e = record { refusal = e; accepted = λ z. absurd (numbered f (ap (λ (r : Refusal). r.number) e ∙ z)) }

-- the same where `?` returned what a part of the table refused with
pub handed_on : {qs : List Question} {r : Result (Unit {0}) Why.Refusal} (f : Why.Refusal) → IsErrAnd r (λ x. x ≡ f) → refusal_of {A = Unit {0}} (Err f) ≡ first_no qs → Answered qs r
handed_on {r = Ok a} f h e = absurd h
handed_on {r = Err x} f h e = answered (ap number_and_sheet h ∙ e)

-- what closes a return of code that asks
pub ruleset asks = (all-said, said-yes, said-no, table_yes, table_no, answered, handed_on)
