-- The count that labelling answers: the ones in the two words of the last row, which are the nodes where the last line is true. And its
-- percent, in a reader's terms.
use mathlib.Core.Path.{◌≡◌, sym, ap, ◌∙◌}
use mathlib.Core.Logic.{◌↔◌, ⊎_elim}
use Prim.Native.Nat.{ℕ, zero, suc, ◌+◌, ◌-◌, ◌*◌, ◌^◌, ◌≤◌, ◌<◌}
use native.Mathlib.Nat.{add-zero}
use native.Mathlib.Numerals.{add-one}
use native.Mathlib.Omega.{arith}
use mathlib.Core.List.{List}
use mathlib.Core.Bool.{Bool, false, not}
use lib.ListN.{length}
use lib.Dec.{T, T_not}
use Rattle.std.specs.Prelude.{Ok}
use Rattle.sheets.specs.Words.{word, indicator, sum}
use Rattle.sheets.specs.Questions.{Refusal, none as no_refusal}
use Rattle.sheets.specs.Machine.{nodes}
use Rattle.sheets.specs.Rules.{lent, lines}
use Rattle.sheets.proofs.Tests.{test, passed, failed}
use Rattle.sheets.proofs.Counting.{sum-most, number}
use Rattle.sheets.proofs.AcceptedMachine.{nodes-sized}
use Rattle.sheets.proofs.AcceptedRule.{some-line}
use Rattle.sheets.proofs.BitLaws.{sum_same}
use Rattle.sheets.specs.Format.{nodes_most}
use Rattle.truth.specs.Sizes.{row_words, members_most, row_word_bits}
use Rattle.truth.specs.Truth.{TrueAt}
use Rattle.truth.specs.inner.Rows.{held}
use Rattle.truth.specs.Labelling.{row_bit, row_ones, Rows, HowMany, none, one_more, no_more, NearestPercent}
use Rattle.truth.specs.LabelAnswers.{Leaves, LabelAnswer}
use Rattle.truth.specs.declared.labelling.Labelled.{Labelled}
use Rattle.truth.proofs.rows.RowLaws.{tally-number, sum-split, held-count}
use Rattle.truth.proofs.tables.RowBits.{row-bit}
use Rattle.truth.proofs.labelling.LabelTable.{machine-accepted, rules-accepted}
use Rattle.truth.proofs.labelling.Percents.{percent-nearest, nearest-percent}

-- ---- numbers of nodes

-- tests that agree count the same
pub number_same : (n : ℕ) (p r : ℕ → Bool) → ((s : ℕ) → 1 ≤ s → s ≤ n → p s ≡ r s) → number n p ≡ number n r
unfolding number
number_same n p r same = sum_same n (λ s. indicator (p s)) (λ s. indicator (r s)) (λ s lo hi. ap indicator (same s lo hi))

-- and nothing counts where a test fails
number-clear : (n k : ℕ) (p : ℕ → Bool) → ((s : ℕ) → n < s → s ≤ n + k → p s ≡ false) → number (n + k) p ≡ number n p
unfolding number indicator
number-clear n k p clear =
    let none = sum-most k 0 (λ i. indicator (p (n + i))) (λ i lo hi. rw (clear (n + i) (omega arith) (omega arith)) (omega arith)) in
    omega (arith, sum-split n k (λ i. indicator (p i)), none)

-- ---- the last row, of two words of 64 bits

module _ (M R before after : List ℕ) (small : nodes M ≤ nodes_most) (some : 1 ≤ lines R) (rows : Rows M R before after) where
  abbrev low : ℕ
  low = word after (row_words * (lines R - 1))

  abbrev high : ℕ
  high = word after (row_words * (lines R - 1) + 1)

  module _ (l : low < 2 ^ row_word_bits) (h : high < 2 ^ row_word_bits) where
    -- the ones in the last row are the nodes whose bit it has
    pub ones-counted : row_ones after (lines R) ≡ number (nodes M) (row_bit after (lines R))
    unfolding row_ones word
    ones-counted =
        let e : nodes M + (members_most - nodes M) ≡ members_most = omega arith in
        let bits : (s : ℕ) → 1 ≤ s → s ≤ members_most → held low high s ≡ row_bit after (lines R) s = λ s lo hi. sym (row-bit after (lines R) s lo hi) in
        held-count low high l h ∙ tally-number members_most (held low high)
        ∙ rw e at (number-clear (nodes M) (members_most - nodes M) (held low high) (λ s lo hi. bits s (omega arith) (omega arith) ∙ rows.clear (lines R) s some (omega arith) lo (omega arith)))
        ∙ number_same (nodes M) (held low high) (row_bit after (lines R)) (λ s lo hi. bits s lo (omega arith))

-- ---- labelling's answer: of the nodes 1 to n of the machine so many have the last line true, by definition 5

-- one number more, by a test that says the property of it
many_more : (P : ℕ → Type 0) (p : ℕ → Bool) (n : ℕ) → T (p (suc n)) ↔ P (suc n) → HowMany P n (number n p)
    → HowMany P (suc n) (number n p + indicator (p (suc n)))
unfolding indicator
many_more P p n says before = ⊎_elim yes no (test (p (suc n)))
  where
    yes : T (p (suc n)) → HowMany P (suc n) (number n p + indicator (p (suc n)))
    yes t = rw (passed (p (suc n)) t, add-one (number n p)) (one_more before (says.0 t))

    no : T (not (p (suc n))) → HowMany P (suc n) (number n p + indicator (p (suc n)))
    no f = rw (failed (p (suc n)) f, add-zero (number n p)) (no_more before (λ x. T_not (p (suc n)) f (says.1 x)))

tested-many : (P : ℕ → Type 0) (p : ℕ → Bool) (n : ℕ) → ((s : ℕ) → 1 ≤ s → s ≤ n → T (p s) ↔ P s) → HowMany P n (number n p)
unfolding number sum
tested-many P p zero says = none
tested-many P p (suc n) says =
    many_more P p n (says (suc n) (omega arith) (omega arith)) (tested-many P p n (λ s lo hi. says s lo (omega arith)))

-- the words of the space are of 64 bits
pub count-true : (M R before after : List ℕ) (found : Labelled) → LabelAnswer M R before after (Ok found)
    → ((i : ℕ) → word after i < 2 ^ row_word_bits) → HowMany (TrueAt lent M R (lines R)) (nodes M) found.count
unfolding Leaves no_refusal
count-true M R before after found answer words =
    let asked = ap (λ (r : Refusal). r.number) answer.refusal in
    let some = some-line lent R (rules-accepted M R (length before) asked) in
    let small = (nodes-sized M (machine-accepted M R (length before) asked)).1 in
    let rows = answer.leaves.rows in
    let e = answer.leaves.counted ∙ ones-counted M R before after small some rows (words (row_words * (lines R - 1))) (words (row_words * (lines R - 1) + 1)) in
    rw e (tested-many (TrueAt lent M R (lines R)) (row_bit after (lines R)) (nodes M) (λ s lo hi. rows.truth (lines R) s some (omega arith) lo hi))

-- the percent that labelling answers, and no other number, is a nearest whole number to 100 count / n, where two are as near the even one
pub share-nearest : (M R before after : List ℕ) (found : Labelled) → LabelAnswer M R before after (Ok found)
    → (p : ℕ) → NearestPercent found.count (nodes M) p ↔ p ≡ found.percent
unfolding Leaves no_refusal
share-nearest M R before after found answer p =
    let asked = ap (λ (r : Refusal). r.number) answer.refusal in
    let some = (nodes-sized M (machine-accepted M R (length before) asked)).0 in
    let said = answer.leaves.shared in
    (λ h. nearest-percent found.count (nodes M) p some h ∙ sym said, λ e. rw (e ∙ said) (percent-nearest found.count (nodes M) some))
