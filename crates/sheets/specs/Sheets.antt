-- A machine sheet and a rule sheet together: the questions that every call over both asks first, and the machine sheet that a question is
-- put to.
use Rattle.std.specs.Prelude.{ℕ, List, [], ◌∷◌, ◌++◌, leb}
use Rattle.sheets.specs.Words.{indicator}
use Rattle.sheets.specs.Questions.{Question, ask}
use Rattle.sheets.specs.Machine.{signals, machine_questions}
use Rattle.sheets.specs.Rules.{lent, rule_questions, over_signals}

-- "Are all signal numbers at most a?"
abbrev pub signal_questions : List ℕ → List ℕ → List Question
signal_questions M R = ask 16 0 (over_signals lent (signals M) R) ∷ []

-- questions 1 to 16: the machine's, the rule's, and that one
unfoldable pub sheet_questions : List ℕ → List ℕ → List Question
unfolding machine_questions rule_questions over_signals
sheet_questions M R = machine_questions 1 M ++ (rule_questions lent R ++ signal_questions M R)

-- the machine sheet that a question is put to, in a call with one machine sheet: 1 for questions 1 to 6, otherwise 0
unfoldable pub sheet_of : ℕ → ℕ
unfolding indicator
sheet_of q = indicator (leb q 6)
