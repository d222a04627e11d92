-- `mask_fits` meets its contract. From v = 4 on every word fits, and below that 2 ^ v is `1 << v`.
use mathlib.Core.Path.{sym}
use borrow.Author.Tests.{lt-ltb}
use lib.Pow.{pow_mono}
use native.Mathlib.Nat.{lt_of_lt_of_le}
use Rattle.sheets.proofs.automata.mask_fits.Goals as goal

pub returns-then-v-ge-VARIABLES_MOST : goal.returns-then-v-ge-VARIABLES_MOST
returns-then-v-ge-VARIABLES_MOST c = sym (lt-ltb _ _ (lt_of_lt_of_le c.ranges.x.fits (pow_mono (pow_mono c.if-v-ge-VARIABLES_MOST.true))))
