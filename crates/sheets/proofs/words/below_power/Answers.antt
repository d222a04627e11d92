-- `below_power` meets its contract: a word has no bits past its own, and below them the power is a shift.
use mathlib.Core.Path.{sym}
use borrow.Author.Tests.{lt-ltb}
use lib.Pow.{pow_mono}
use native.Mathlib.Nat.{lt_of_lt_of_le}
use Rattle.sheets.proofs.words.below_power.Goals as goal

pub returns-then-a-ge-WORD_BITS : goal.returns-then-a-ge-WORD_BITS
returns-then-a-ge-WORD_BITS c = sym (lt-ltb _ _ (lt_of_lt_of_le c.ranges.x.fits (pow_mono c.if-a-ge-WORD_BITS.true)))
