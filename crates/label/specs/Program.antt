-- What the labelling program answers to its input.
use Rattle.std.specs.Prelude.{◌≡◌, ℕ, List, Result, Err, IsOkAnd}
use Rattle.sheets.specs.Machine.{nodes}
use Rattle.sheets.specs.Rules.{lines}
use Rattle.truth.specs.LabelAnswers.{LabelAnswer}
use Rattle.input.specs.Limits.{sheets_bytes}
use Rattle.input.specs.Replies.{Reply}
use Rattle.input.specs.declared.refused.Refused.{Refused}
use Rattle.input.specs.declared.refused.Refused.TheVariants.{Bytes}
use Rattle.label.specs.declared.answer.Answer.{Answer}

-- the answer to a machine sheet and a rule sheet, and the space for the rows before and after: that of labelling, and how many nodes and
-- lines there are, beside a refusal too
pub record LabelledSheets (M R before after : List ℕ) (answer : Answer) : Type 0 where
  pub labelled : LabelAnswer M R before after answer.labelled
  pub nodes : answer.nodes ≡ nodes M
  pub lines : answer.lines ≡ lines R

-- the answer to bytes: a machine sheet and after it a rule sheet, cut by the machine's header; more bytes than the longest two have, or an
-- odd number of them, are refused
abbrev pub Answered : List ℕ → List ℕ → List ℕ → Result Answer Refused → Type 0
Answered bytes before after answer =
    Reply sheets_bytes bytes ((answer ≡ Err Bytes) × (after ≡ before)) (λ (M R : List ℕ). IsOkAnd answer (LabelledSheets M R before after))
