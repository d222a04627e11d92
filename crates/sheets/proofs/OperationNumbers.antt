-- What a number reads as, against the numbers of the path lines.
use mathlib.Core.Path.{◌≡◌, refl, sym}
use Prim.Native.Nat.{ℕ, zero, suc, ◌<◌}
use mathlib.Core.Bool.{false, and-false}
use native.Mathlib.Omega.{arith}
use borrow.Author.Tests.{lt-leb, ne_eqb}
use lib.Dec.{eqb}
use Rattle.std.specs.Prelude.{Result, Ok, Err}
use Rattle.std.specs.Result.{result_eq}
use Rattle.sheets.specs.Operations.{some_path_operation, some_path_not_operation}
use Rattle.sheets.specs.OperationNumbers.{number_of, Reads}
use Rattle.sheets.specs.Words.{within}
use Rattle.sheets.specs.declared.operation.Operation.{Operation}
use Rattle.sheets.specs.declared.operation.Operation.TheVariants.{Signal, Negation, Either, SomePath, SomePathNot}
use Rattle.sheets.specs.declared.operation.NoOperation.{NoOperation}
use Rattle.sheets.specs.contracts.operation.OperationPartialEq as OperationEq
use Rattle.sheets.specs.contracts.operation.NoOperationPartialEq as NoOperationEq

-- a number that no operation has is past them all, so it is no path line's
pub none-past : (n : ℕ) → ((o : Operation) → number_of o ≡ n → ⊥) → some_path_not_operation < n
none-past zero none = absurd (none Signal refl)
none-past (suc zero) none = absurd (none Negation refl)
none-past (suc (suc zero)) none = absurd (none Either refl)
none-past (suc (suc (suc zero))) none = absurd (none SomePath refl)
none-past (suc (suc (suc (suc zero)))) none = absurd (none SomePathNot refl)
none-past (suc (suc (suc (suc (suc n))))) none = omega arith

pub none-path : (n : ℕ) → ((o : Operation) → number_of o ≡ n → ⊥) → false ≡ within some_path_operation some_path_not_operation n
none-path n none = simp (lt-leb n some_path_not_operation (none-past n none), and-false) refl

-- whether it is read as "on some path not A"
pub some-path-not : (n : ℕ) (r : Result Operation NoOperation) → Reads n r
    → result_eq (OperationEq.TheImpl.eq-value).it (NoOperationEq.TheImpl.eq-value).it r (Ok SomePathNot) ≡ eqb n some_path_not_operation
some-path-not n (Ok Signal) reads = rw (← reads) refl
some-path-not n (Ok Negation) reads = rw (← reads) refl
some-path-not n (Ok Either) reads = rw (← reads) refl
some-path-not n (Ok SomePath) reads = rw (← reads) refl
some-path-not n (Ok SomePathNot) reads = rw (← reads) refl
some-path-not n (Err e) reads = sym (ne_eqb n some_path_not_operation (λ e. reads.1 SomePathNot (sym e)))
