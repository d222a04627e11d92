-- `bit` meets its contract: past a word's bits none is set, and the others are read by a shift.
use mathlib.Core.Path.{sym}
use Rattle.sheets.specs.Format.{word_bits}
use Rattle.sheets.proofs.BitLaws.{bit-read, bit-above}
use Rattle.sheets.proofs.words.bit.Goals as goal

pub returns-then-i-ge-WORD_BITS : goal.returns-then-i-ge-WORD_BITS
returns-then-i-ge-WORD_BITS c = sym (bit-above word_bits _ _ c.ranges.x.fits c.if-i-ge-WORD_BITS.true)

pub returns : goal.returns
returns c = bit-read _ _
