-- The operations of a line: of each number what its words are, and which line they make. Question 15, the line of a record, decoding, and what
-- comparison writes derive from this.
use Rattle.std.specs.Prelude.{ℕ, zero, suc, ◌+◌}
use Rattle.sheets.specs.Format.{operand_place, argument_place}
use Rattle.sheets.specs.Structures.{Line, signal, negation, either, some_path, some_path_not, malformed}

-- the numbers
abbrev pub signal_operation : ℕ
signal_operation = 0

abbrev pub negation_operation : ℕ
negation_operation = 1

abbrev pub either_operation : ℕ
either_operation = 2

abbrev pub some_path_operation : ℕ
some_path_operation = 3

abbrev pub some_path_not_operation : ℕ
some_path_not_operation = 4

-- what the words of a record are, from its first operand on: a signal; lines above, so many; an automaton, and a line above for each of its variables; and
-- a number that is no operation has none
pub data Operands : Type 0 where
  one_signal : Operands
  lines_above : ℕ → Operands
  automaton_with_lines : Operands
  no_operands : Operands

-- an operation: its operands, and the line that a record makes whose word k is `w k`
pub record Operation : Type 0 where
  pub operands : Operands
  pub makes : (ℕ → ℕ) → Line

unfoldable pub operation : ℕ → Operation
operation zero = record { operands = one_signal; makes = λ w. signal (w operand_place) }
operation (suc zero) = record { operands = lines_above 1; makes = λ w. negation (w operand_place) }
operation (suc (suc zero)) = record { operands = lines_above 2; makes = λ w. either (w operand_place) (w (operand_place + 1)) }
operation (suc (suc (suc zero))) = record { operands = automaton_with_lines; makes = λ w. some_path (w operand_place) (λ i. w (argument_place i)) }
operation (suc (suc (suc (suc zero)))) = record { operands = automaton_with_lines; makes = λ w. some_path_not (w operand_place) (λ i. w (argument_place i)) }
operation (suc (suc (suc (suc (suc n))))) = record { operands = no_operands; makes = λ w. malformed }
