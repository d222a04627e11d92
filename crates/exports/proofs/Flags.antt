-- A flag as a number.
use mathlib.Core.Path.{◌≡◌, refl}
use mathlib.Core.Bool.{Bool, true, false}
use mir.Val.{bool_byte}
use Rattle.sheets.specs.Words.{indicator}

pub flag : (b : Bool) → bool_byte b ≡ indicator b
unfolding indicator
flag true = refl
flag false = refl
