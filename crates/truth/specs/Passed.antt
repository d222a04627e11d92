-- What the crate above cites of the sheet reader's definitions, passed on.
pub use Rattle.sheets.specs.Questions.{Refusal, Question, ask}
pub use Rattle.sheets.specs.Format.{nodes_most, signals_most, lines_most, rule_header, line_words, operation_place, operand_place, argument_place, line_record, next_states, next_transitions, next_head, lines_written, rule_space}
pub use Rattle.sheets.specs.Operations.{signal_operation, negation_operation, either_operation, some_path_operation}
pub use Rattle.sheets.specs.Structures.{Kripke, Automaton, Line, signal, negation, either, some_path, some_path_not, malformed}
pub use Rattle.sheets.specs.Words.{within}
pub use Rattle.sheets.specs.Machine.{nodes, signals, edges, signal_at, start_flag, target, edges_of, machine_refusal}
pub use Rattle.sheets.specs.Rules.{lent, automata, states, transitions, variables, lines, line_word, rule_refusal}
pub use Rattle.sheets.specs.Refusals.{number_of, refusal_of}
pub use Rattle.sheets.specs.declared.refusal.Refusal.{Refusal as Refused}
pub use Rattle.sheets.specs.CheckAnswers.{Answered}
pub use Rattle.sheets.specs.OperationNumbers.{number_of as operation_number}
unfoldable pub use Rattle.sheets.specs.Questions.{none, first_no}
unfoldable pub use Rattle.sheets.specs.Words.{word, bit, each, any_of, chain}
unfoldable pub use Rattle.sheets.specs.Records.{record_word}
unfoldable pub use Rattle.sheets.specs.Machine.{kripke, machine_questions}
unfoldable pub use Rattle.sheets.specs.Rules.{lifted, automaton, line, line_of, unused, refers_above, path_fits, line_fits, signal_most, over_signals, q7, q8, q9, q10, q11, q12, q13, q14, q15}
pub use Rattle.sheets.specs.Worked.{M1, M2, M3, M5, M6, MixedSheet, PartialSheet, SelfLinked, ExtraSignal}
