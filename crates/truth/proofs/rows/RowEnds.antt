-- The lowest and the highest node of a row: the lowest set bit of the lower word that has one, the highest of the upper.
use mathlib.Core.Path.{◌≡◌, refl, ◌∙◌}
use mathlib.Core.Logic.{◌⊎◌, inl, inr, ⊎_elim}
use Prim.Native.Nat.{ℕ, zero, suc, ◌+◌, ◌-◌, ◌/◌, ◌%◌, ◌^◌, ◌≤◌, ◌<◌}
use native.Mathlib.Nat.{pow-succ', div-eq_of_lt-le}
use native.Mathlib.Omega.{arith}
use mathlib.Core.Bool.{true}
use lib.Dec.{T}
use lib.Count.{count_trailing_zeros, count_leading_zeros, leading_top}
use Rattle.sheets.specs.Words.{bit}
use Rattle.sheets.proofs.Search.{le-or-gt}
use Rattle.sheets.proofs.Bits.{odd-or-even, bit-zero, bit-suc, no-bit}
use Rattle.sheets.proofs.BitLaws.{bit-above}
use Rattle.truth.specs.Sizes.{row_word_bits, high_first, members_most}
use Rattle.truth.specs.declared.rows.Row.{Row}
use Rattle.truth.specs.inner.Rows.{row_has, Leading}
use Rattle.truth.proofs.rows.RowLaws.{held_in, held_low, held_high, held-lower, held-upper}

-- ---- of a word

pub record Lowest (k x : ℕ) : Type 0 where
  pub below : count_trailing_zeros k x < k
  pub is_set : bit x (count_trailing_zeros k x) ≡ true
  pub least : (i : ℕ) → T (bit x i) → count_trailing_zeros k x ≤ i

lowest-odd : (k x : ℕ) → x % 2 ≡ 1 → Lowest (suc k) x
unfolding count_trailing_zeros
lowest-odd k x e = record { below = rw e (omega arith); is_set = rw e (bit-zero x ∙ rw e); least = λ i t. rw e (omega arith) }

lowest-even : (k x : ℕ) → x % 2 ≡ 0 → Lowest k (x / 2) → Lowest (suc k) x
unfolding count_trailing_zeros
lowest-even k x e r = record {
  below = rw e (omega (arith, r.below));
  is_set = rw e (bit-suc x (count_trailing_zeros k (x / 2)) ∙ r.is_set);
  least = λ i t. rw e (least i t);
}
  where
    least : (i : ℕ) → T (bit x i) → suc (count_trailing_zeros k (x / 2)) ≤ i
    least zero t = absurd (rw (bit-zero x, e) at t)
    least (suc i) t = omega (arith, r.least i (rw (bit-suc x i) at t))

pub lowest : (k x : ℕ) → 0 < x → x < 2 ^ k → Lowest k x
lowest zero x h l = absurd (omega arith)
lowest (suc k) x h l =
    ⊎_elim (lowest-odd k x) (λ e. lowest-even k x e (lowest k (x / 2) (omega arith) (omega (arith, pow-succ' 2 k)))) (odd-or-even x)

bit-top : (w j : ℕ) → 2 ^ j ≤ w → w < 2 ^ suc j → bit w j ≡ true
unfolding bit
bit-top w j lo hi =
    let e : w / 2 ^ j ≡ 1 = div-eq_of_lt-le (2 ^ j) (omega arith) (omega (arith, pow-succ' 2 j)) in
    rw e

-- no bit of w is above j
bit-most : (w j i : ℕ) → w < 2 ^ suc j → T (bit w i) → i ≤ j
bit-most w j i hi t = ⊎_elim (λ l. l) (λ l. absurd (rw (bit-above (suc j) w i hi l) at t)) (le-or-gt i j)

-- ---- of a row

module _ (r : Row) where
  -- a node stands in the lower or in the upper word
  by_word : (s : ℕ) → T (row_has r s) → ((1 ≤ s) × (s ≤ row_word_bits) × T (bit r.low (s - 1))) ⊎ ((row_word_bits < s) × T (bit r.high (s - high_first)))
  by_word s t =
      let i = held_in r.low r.high s t in
      ⊎_elim (λ l. inl (i.0, l, rw (held_low r.low r.high s i.0 l) at t)) (λ l. inr (l, rw (held_high r.low r.high s l i.1) at t)) (le-or-gt s row_word_bits)

  -- one of 1 to 128, for it is in the row
  leading : {before : ℕ → ℕ → Type 0} (u : ℕ) → row_has r u ≡ true → ((s : ℕ) → T (row_has r s) → before u s) → Leading before r u
  leading u e others =
      let t : T (row_has r u) = rw e tt in
      let i = held_in r.low r.high u t in
      record { is_in = t; from = i.0; to = i.1; others = others }

  -- the bits of the word w stand for the nodes from o on
  module _ (w o : ℕ) (is : (k : ℕ) → k < row_word_bits → row_has r (k + o) ≡ bit w k) (some : 0 < w) (small : w < 2 ^ row_word_bits) where
    -- every other node comes after them, or is one of them
    first-at : ((s : ℕ) → T (row_has r s) → (o + row_word_bits ≤ s) ⊎ ((o ≤ s) × T (bit w (s - o)))) → Leading (λ u s. u ≤ s) r (count_trailing_zeros row_word_bits w % row_word_bits + o)
    first-at nodes =
        let l = lowest row_word_bits w some small in
        let k = count_trailing_zeros row_word_bits w in
        let e : k % row_word_bits ≡ k = omega (arith, l.below) in
        rw e (leading (k + o) (is k l.below ∙ l.is_set)
        (λ s t. ⊎_elim (λ h. omega (arith, l.below)) (λ h. omega (arith, l.least (s - o) h.1, h.0)) (nodes s t)))

    -- every other node comes before them, or is one of them
    last-at : (n : ℕ) → n ≡ o + (row_word_bits - 1) → ((s : ℕ) → T (row_has r s) → (s < o) ⊎ ((o ≤ s) × T (bit w (s - o)))) → Leading (λ u s. s ≤ u) r (n - count_leading_zeros row_word_bits w % row_word_bits)
    last-at n q nodes =
        let t = leading_top row_word_bits w some small in
        let j = t.0 in
        let few : j < row_word_bits = omega (arith, t.1) in
        let e : n - count_leading_zeros row_word_bits w % row_word_bits ≡ j + o = omega (arith, t.1) in
        rw e (leading (j + o) (is j few ∙ bit-top w j t.2 t.3)
        (λ s u. ⊎_elim (λ l. omega arith) (λ l. omega (arith, bit-most w j (s - o) t.3 l.1, l.0)) (nodes s u)))

  pub first-low : 0 < r.low → r.low < 2 ^ row_word_bits → Leading (λ u s. u ≤ s) r (count_trailing_zeros row_word_bits r.low % row_word_bits + 1)
  first-low some small =
      first-at r.low 1 (held-lower r.low r.high) some small (λ s t. ⊎_elim (λ l. inr (l.0, l.2)) (λ h. inl (omega (arith, h.0))) (by_word s t))

  pub first-high : r.low ≡ 0 → 0 < r.high → r.high < 2 ^ row_word_bits → Leading (λ u s. u ≤ s) r (count_trailing_zeros row_word_bits r.high % row_word_bits + high_first)
  first-high e some small =
      first-at r.high high_first (held-upper r.low r.high) some small
      (λ s t. ⊎_elim (λ l. absurd (no-bit (s - 1) (rw e at l.2))) (λ h. inr (omega (arith, h.0), h.1)) (by_word s t))

  pub last-low : r.high ≡ 0 → 0 < r.low → r.low < 2 ^ row_word_bits → Leading (λ u s. s ≤ u) r (row_word_bits - count_leading_zeros row_word_bits r.low % row_word_bits)
  last-low e some small =
      last-at r.low 1 (held-lower r.low r.high) some small row_word_bits refl
      (λ s t. ⊎_elim (λ l. inr (l.0, l.2)) (λ h. absurd (no-bit (s - high_first) (rw e at h.1))) (by_word s t))

  pub last-high : 0 < r.high → r.high < 2 ^ row_word_bits → Leading (λ u s. s ≤ u) r (members_most - count_leading_zeros row_word_bits r.high % row_word_bits)
  last-high some small =
      last-at r.high high_first (held-upper r.low r.high) some small members_most refl
      (λ s t. ⊎_elim (λ l. inl (omega (arith, l.1))) (λ h. inr (omega (arith, h.0), h.1)) (by_word s t))
