-- A line taken apart: what is said of it where its number is no operation's and where it is no signal; and back to question 15.
use mathlib.Core.Path.{◌≡◌, refl, sym}
use Prim.Native.Nat.{ℕ, zero, suc}
use mathlib.Core.List.{List}
use mathlib.Core.Bool.{Bool, true, false}
use Rattle.std.specs.Prelude.{Some, None, Result, Ok, Err}
use Rattle.std.specs.Result.{result_ok}
use Rattle.sheets.specs.Format.{operation_place}
use Rattle.sheets.specs.Operations.{signal_operation}
use Rattle.sheets.specs.OperationNumbers.{number_of, Reads}
use Rattle.sheets.specs.declared.operation.Operation.{Operation}
use Rattle.sheets.specs.declared.operation.Operation.TheVariants.{Signal, Negation, Either, SomePath, SomePathNot}
use Rattle.sheets.specs.declared.operation.NoOperation.{NoOperation}
use Rattle.sheets.specs.Rules.{lent, line_word, line_fits, line_of, line, signal_most}
use Rattle.sheets.specs.declared.lines.Line.{Line}
use Rattle.sheets.specs.inner.Lines.{handed, decoded_as, decoded}

some-read : {n : ℕ} (r : Result Operation NoOperation) (o : Operation) → Reads n r → result_ok r ≡ Some o → number_of o ≡ n
some-read (Ok other) o reads e = let same : other ≡ o = cc in rw same at reads
some-read (Err number) o reads e = absurd cc

none-read : {n : ℕ} (r : Result Operation NoOperation) → Reads n r → result_ok r ≡ None → (o : Operation) → number_of o ≡ n → ⊥
none-read (Ok o) reads e = absurd cc
none-read (Err number) reads e = reads.1

module _ (R : List ℕ) (j : ℕ) where
  -- a number that no operation has
  pub other-fails : (n : ℕ) → ((o : Operation) → number_of o ≡ n → ⊥) → false ≡ line_fits lent R j n
  unfolding line_fits
  other-fails zero none = absurd (none Signal refl)
  other-fails (suc zero) none = absurd (none Negation refl)
  other-fails (suc (suc zero)) none = absurd (none Either refl)
  other-fails (suc (suc (suc zero))) none = absurd (none SomePath refl)
  other-fails (suc (suc (suc (suc zero)))) none = absurd (none SomePathNot refl)
  other-fails (suc (suc (suc (suc (suc n))))) none = refl

  -- a line of another operation has no signal number
  pub other-most : (a op : ℕ) → (op ≡ signal_operation → ⊥) → signal_most a (line_of lent R j op) ≡ true
  unfolding line_of signal_most
  other-most a zero n = absurd (n refl)
  other-most a (suc zero) n = refl
  other-most a (suc (suc zero)) n = refl
  other-most a (suc (suc (suc zero))) n = refl
  other-most a (suc (suc (suc (suc zero)))) n = refl
  other-most a (suc (suc (suc (suc (suc m))))) n = refl

  -- the number of the line's operation, and what it reads as
  module _ (r : Result Operation NoOperation) (reads : Reads (line_word lent R j operation_place) r) where
    pub decoded-none : result_ok r ≡ None → None ≡ decoded R j
    unfolding decoded decoded_as
    decoded-none e = rw (← other-fails _ (none-read r reads e)) refl

    pub decoded-some : (o : Operation) → result_ok r ≡ Some o → decoded_as (line_fits lent R j (number_of o)) (line_of lent R j (number_of o)) ≡ decoded R j
    unfolding decoded line
    decoded-some o e = rw (some-read r o reads e) refl

  -- ---- back to question 15

  some-by : (b : Bool) {l : Line} → decoded_as b (line lent R j) ≡ Some l → b ≡ true
  unfolding decoded_as
  some-by true e = refl
  some-by false e = cc

  pub some-fits : {l : Line} → decoded R j ≡ Some l → line_fits lent R j (line_word lent R j operation_place) ≡ true
  unfolding decoded
  some-fits e = some-by (line_fits lent R j (line_word lent R j operation_place)) e

  none-by : (n : ℕ) (b : Bool) → line_fits lent R j n ≡ b → decoded_as b (line_of lent R j n) ≡ None → b ≡ false
  unfolding decoded_as handed line_fits line_of
  none-by n false f e = refl
  none-by zero true f e = cc
  none-by (suc zero) true f e = cc
  none-by (suc (suc zero)) true f e = cc
  none-by (suc (suc (suc zero))) true f e = cc
  none-by (suc (suc (suc (suc zero)))) true f e = cc
  none-by (suc (suc (suc (suc (suc n))))) true f e = sym f

  pub none-fails : decoded R j ≡ None → line_fits lent R j (line_word lent R j operation_place) ≡ false
  unfolding decoded line
  none-fails e = none-by (line_word lent R j operation_place) (line_fits lent R j (line_word lent R j operation_place)) refl e
