-- `in_number` meets its contract: a law for each sort of byte.
use mathlib.Core.Path.{◌≡◌, sym, ◌∙◌}
use Prim.Native.Nat.{◌+◌, ◌*◌}
use native.Mathlib.Omega.{arith}
use Rattle.std.proofs.lemmas.Result.{OkIff-at_ok, OkIff-at_err}
use Rattle.text.proofs.Moving.{number-blank, number-digit, number-above, number-other}
use Rattle.text.proofs.reader.Reader.in_number.Goals as goal

pub returns-in-Blank : goal.returns-in-Blank
returns-in-Blank c = number-blank _ _ _ _ c.requires (sym c.from.ensures ∙ c.in-Blank.is)

pub returns-in-Ok : goal.returns-in-Ok
returns-in-Ok c =
    let fits = OkIff-at_ok _ _ _ _ c.try_from.ensures c.in-Ok.is in
    let is : c.in-Ok.value ≡ 10 * c.args.value + c.in-Digit.digit = omega (arith, fits.0, fits.1, c.from-in-Digit.ensures, c.from-in-Digit-2.ensures) in
    rw is (number-digit _ _ _ _ c.requires _ (sym c.from.ensures ∙ c.in-Digit.is) (omega (arith, is)))

pub returns-in-Err : goal.returns-in-Err
returns-in-Err c =
    rw c.stopped.ensures
    (number-above _ _ _ _ c.requires _ (sym c.from.ensures ∙ c.in-Digit.is) (omega (arith, OkIff-at_err _ _ _ _ c.try_from.ensures c.in-Err.is, c.from-in-Digit.ensures, c.from-in-Digit-2.ensures)))

pub returns-in-Other : goal.returns-in-Other
returns-in-Other c = rw c.stopped-in-Other.ensures (number-other _ _ _ _ c.requires (sym c.from.ensures ∙ c.in-Other.is))
