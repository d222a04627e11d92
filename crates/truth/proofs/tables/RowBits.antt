-- The row of a line in the lent space, as `Labelling` reads it, is the row of two words that the code loads.
use mathlib.Core.Path.{◌≡◌, sym}
use mathlib.Core.Logic.{⊎_elim}
use Prim.Native.Nat.{ℕ, ◌-◌, ◌/◌, ◌%◌, ◌≤◌, ◌<◌}
use native.Mathlib.Nat.{add-zero}
use native.Mathlib.Omega.{arith}
use mathlib.Core.List.{List}
use lib.ListN.{get_or}
use Rattle.sheets.specs.Words.{word}
use Rattle.sheets.proofs.Search.{le-or-gt}
use Rattle.truth.specs.Sizes.{row_word_bits, high_first, members_most, low_at, high_at}
use Rattle.truth.specs.Labelling.{row_bit}
use Rattle.truth.specs.inner.Rows.{rows_has}
use Rattle.truth.proofs.rows.RowLaws.{held_low, held_high}

pub row-bit : (rows : List ℕ) (j s : ℕ) → 1 ≤ s → s ≤ members_most → row_bit rows j s ≡ rows_has rows (j - 1) s
unfolding row_bit word
row-bit rows j s lo hi = ⊎_elim low high (le-or-gt s row_word_bits)
  where
    a : ℕ
    a = get_or rows (low_at (j - 1)) 0

    b : ℕ
    b = get_or rows (high_at (j - 1)) 0

    low : s ≤ row_word_bits → row_bit rows j s ≡ rows_has rows (j - 1) s
    low h =
        let e : (s - 1) / row_word_bits ≡ 0 = omega arith in
        let f : (s - 1) % row_word_bits ≡ s - 1 = omega arith in
        rw (e, f, add-zero (low_at (j - 1))) (sym (held_low a b s lo h))

    high : row_word_bits < s → row_bit rows j s ≡ rows_has rows (j - 1) s
    high h =
        let e : (s - 1) / row_word_bits ≡ 1 = omega arith in
        let f : (s - 1) % row_word_bits ≡ s - high_first = omega arith in
        rw (e, f) (sym (held_high a b s h hi))
