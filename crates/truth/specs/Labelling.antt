-- Labelling: the rows of a whole rule sheet, and what is answered.
use Rattle.std.specs.Prelude.{◌≡◌, ◌↔◌, ◌≢◌, ℕ, suc, ◌+◌, ◌-◌, ◌*◌, ◌/◌, ◌%◌, ◌≤◌, ◌<◌, List, [], ◌∷◌, ◌++◌, Bool, false, cond, length, T, leb, ltb}
use Rattle.std.specs.Int.Count.{ones}
use Rattle.sheets.specs.Words.{word, bit}
use Rattle.sheets.specs.Questions.{Question, ask}
use Rattle.sheets.specs.Machine.{nodes, kripke}
use Rattle.sheets.specs.Rules.{lent, lines}
use Rattle.sheets.specs.Sheets.{sheet_questions}
use Rattle.truth.specs.Sizes.{row_word_bits, row_words, members_most, low_at, high_at}
use Rattle.truth.specs.Truth.{Truths, TrueAt}

-- node s in the row of line j: a row a line, node s at bit s - 1 of its words
unfoldable pub row_bit : List ℕ → ℕ → ℕ → Bool
unfolding word bit
row_bit rows j s = bit (word rows (low_at (j - 1) + (s - 1) / row_word_bits)) ((s - 1) % row_word_bits)

-- the truths that the bits of the rows say
abbrev pub row_truths : List ℕ → Truths
row_truths rows j s = T (row_bit rows j s)

-- the ones in the row of line j
unfoldable pub row_ones : List ℕ → ℕ → ℕ
unfolding word ones
row_ones rows j = ones (word rows (low_at (j - 1))) + ones (word rows (high_at (j - 1)))

-- of the numbers 1 to n so many have a property
pub data HowMany (P : ℕ → Type 0) : ℕ → ℕ → Type 0 where
  none : HowMany P 0 0
  one_more : {n c : ℕ} → HowMany P n c → P (suc n) → HowMany P (suc n) (suc c)
  no_more : {n c : ℕ} → HowMany P n c → (P (suc n) → ⊥) → HowMany P (suc n) c

-- the whole percent of c among n: 100c / n rounded to the nearest whole number, a half to the even neighbour
unfoldable pub percent : ℕ → ℕ → ℕ
percent c n =
    let q = 100 * c / n in
    let r = 100 * c % n in
    cond (ltb (2 * r) n) q (cond (ltb n (2 * r)) (q + 1) (q + q % 2))

-- how far apart two numbers are
abbrev pub apart : ℕ → ℕ → ℕ
apart a b = (a - b) + (b - a)

-- no whole number is nearer to 100c / n than p is (both are taken n times), and where another is as near, p is the even one
pub record NearestPercent (c n p : ℕ) : Type 0 where
  pub near : (k : ℕ) → apart (n * p) (100 * c) ≤ apart (n * k) (100 * c)
  pub tie : (k : ℕ) → k ≢ p → apart (n * k) (100 * c) ≡ apart (n * p) (100 * c) → p % 2 ≡ 0

-- the questions that labelling asks, of a space of so many words: those of both sheets, and "Has the space for truth rows at least 2l words
-- of 64 bits?"
unfoldable pub label_questions : List ℕ → List ℕ → ℕ → List Question
unfolding sheet_questions
label_questions M R space = sheet_questions M R ++ (ask 17 0 (leb (row_words * lines R) space) ∷ [])

-- `after` is `before` with the rows of the lines 1 to k of R on M
pub record RowsTo (M R : List ℕ) (k : ℕ) (before after : List ℕ) : Type 0 where
  pub size : length after ≡ length before
  pub truth : (j s : ℕ) → 1 ≤ j → j ≤ k → 1 ≤ s → s ≤ nodes M → T (row_bit after j s) ↔ TrueAt lent M R j s
  pub clear : (j s : ℕ) → 1 ≤ j → j ≤ k → nodes M < s → s ≤ members_most → row_bit after j s ≡ false
  pub rest : (i : ℕ) → row_words * k ≤ i → word after i ≡ word before i

-- of all lines
abbrev pub Rows : List ℕ → List ℕ → List ℕ → List ℕ → Type 0
Rows M R before after = RowsTo M R (lines R) before after

-- every start node of M passes
unfoldable pub StartsIn : List ℕ → (ℕ → Bool) → Type 0
unfolding kripke
StartsIn M p = (s : ℕ) → T ((kripke M).start s) → T (p s)
