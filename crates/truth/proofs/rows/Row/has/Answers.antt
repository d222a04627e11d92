-- `has` meets its contract: the member's bit, in the word that has it.
use mathlib.Core.Path.{sym, ◌∙◌}
use native.Mathlib.Omega.{arith}
use Rattle.sheets.proofs.BitLaws.{bit-read}
use Rattle.truth.proofs.rows.RowLaws.{not-in-row, past_row, held_out, held_low, held_high}
use Rattle.truth.proofs.rows.Row.has.Goals as goal

pub returns-in-1-to-64 : goal.returns-in-1-to-64
returns-in-1-to-64 c = bit-read _ _ ∙ sym (held_low _ _ _ (omega arith) (omega arith))

pub returns-in-65-to-128 : goal.returns-in-65-to-128
returns-in-65-to-128 c = bit-read _ _ ∙ sym (held_high _ _ _ (omega arith) (omega arith))

pub returns-in_default : goal.returns-in_default
returns-in_default c = sym (held_out _ _ _ (not-in-row c.args.s (omega arith)))

pub returns-in_default-2 : goal.returns-in_default-2
returns-in_default-2 c = sym (held_out _ _ _ (past_row c.args.s (omega arith)))
