-- The number of an operation, and what a number reads as.
use Rattle.std.specs.Prelude.{ℕ, ◌≡◌, Result, MatchResult}
use Rattle.sheets.specs.Operations.{signal_operation, negation_operation, either_operation, some_path_operation, some_path_not_operation}
use Rattle.sheets.specs.declared.operation.Operation.{Operation}
use Rattle.sheets.specs.declared.operation.Operation.TheVariants.{Signal, Negation, Either, SomePath, SomePathNot}
use Rattle.sheets.specs.declared.operation.NoOperation.{NoOperation}

abbrev pub number_of : Operation → ℕ
number_of Signal = signal_operation
number_of Negation = negation_operation
number_of Either = either_operation
number_of SomePath = some_path_operation
number_of SomePathNot = some_path_not_operation

-- the result is the operation that has the number, or an error with the number where none has it
abbrev pub Reads : ℕ → Result Operation NoOperation → Type 0
Reads n r = MatchResult r (λ operation. number_of operation ≡ n) (λ e. (e.0 ≡ n) × ((operation : Operation) → number_of operation ≡ n → ⊥))
