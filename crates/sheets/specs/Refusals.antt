-- The number of the question that refuses, and of the machine sheet that it is put to.
use Rattle.std.specs.Prelude.{ℕ, Result, Ok, Err}
use Rattle.sheets.specs.Questions as Questions
use Rattle.sheets.specs.declared.refusal.MachineQuestion.{MachineQuestion}
use Rattle.sheets.specs.declared.refusal.MachineQuestion.TheVariants as M
use Rattle.sheets.specs.declared.refusal.RuleQuestion.{RuleQuestion}
use Rattle.sheets.specs.declared.refusal.RuleQuestion.TheVariants as R
use Rattle.sheets.specs.declared.refusal.CallQuestion.{CallQuestion}
use Rattle.sheets.specs.declared.refusal.CallQuestion.TheVariants as C
use Rattle.sheets.specs.declared.refusal.Side.{Side}
use Rattle.sheets.specs.declared.refusal.Side.TheVariants as S
use Rattle.sheets.specs.declared.refusal.Refusal.{Refusal}
use Rattle.sheets.specs.declared.refusal.Refusal.TheVariants.{Machine, Rules, Call}

abbrev pub machine_number : MachineQuestion → ℕ
machine_number M.Header = 1
machine_number M.Length = 2
machine_number M.Nodes = 3
machine_number M.FirstEdges = 4
machine_number M.Edges = 5
machine_number M.Starts = 6

abbrev pub rule_number : RuleQuestion → ℕ
rule_number R.Header = 7
rule_number R.Length = 8
rule_number R.Automata = 9
rule_number R.States = 10
rule_number R.Transitions = 11
rule_number R.Chains = 12
rule_number R.Valuations = 13
rule_number R.Cycles = 14
rule_number R.Lines = 15

abbrev pub call_number : CallQuestion → ℕ
call_number C.Signals = 16
call_number C.Rows = 17
call_number C.PathLine = 18
call_number C.PathSpace = 19
call_number C.SameSignals = 20
call_number C.Together = 21
call_number C.RuleSpace = 22

abbrev pub side_number : Side → ℕ
side_number S.First = 1
side_number S.Second = 2

abbrev pub number_of : Refusal → ℕ
number_of (Machine side question) = machine_number question
number_of (Rules question) = rule_number question
number_of (Call question) = call_number question

abbrev pub sheet_of : Refusal → ℕ
sheet_of (Machine side question) = side_number side
sheet_of (Rules question) = 0
sheet_of (Call question) = 0

-- what an answer refuses with; an answer that is none refuses nothing
abbrev pub refusal_of : {A : Type 0} → Result A Refusal → Questions.Refusal
refusal_of (Ok answer) = Questions.none
refusal_of (Err refusal) = record { number = number_of refusal; sheet = sheet_of refusal }

-- the same of an answer whose refusals are questions of one kind: those of a machine sheet, put to a sheet of a call, and those of a rule
abbrev pub machine_refusal_of : {A : Type 0} → ℕ → Result A MachineQuestion → Questions.Refusal
machine_refusal_of sheet (Ok answer) = Questions.none
machine_refusal_of sheet (Err question) = record { number = machine_number question; sheet = sheet }

abbrev pub rule_refusal_of : {A : Type 0} → Result A RuleQuestion → Questions.Refusal
rule_refusal_of (Ok answer) = Questions.none
rule_refusal_of (Err question) = record { number = rule_number question; sheet = 0 }
