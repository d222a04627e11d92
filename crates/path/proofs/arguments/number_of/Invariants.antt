-- `number_of` meets its contract: the bytes passed make the number, and what the argument says is what the rest makes behind it.
use Rattle.std.proofs.Common.{◌≡◌, drop}
use Rattle.path.specs.Arguments.{digits_behind, argument_of}
use Rattle.path.proofs.arguments.number_of.Given as goal

abbrev pub invariant-loop-byte : goal.invariant-loop-byte
invariant-loop-byte l = argument_of l.bytes ≡ digits_behind l.value (drop l.byte-index l.bytes)
