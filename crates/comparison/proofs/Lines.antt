-- The rule sheet of a list of written lines: its size, and what its records say.
use mathlib.Core.Path.{◌≡◌, refl, sym, ap, ap₂, ◌∙◌}
use Prim.Native.Nat.{ℕ, zero, suc, ◌+◌, ◌-◌, ◌*◌, ◌≤◌, ◌<◌}
use native.Mathlib.Omega.{arith}
use mathlib.Core.List.{List, [], ◌∷◌, ◌++◌, append_assoc, append-nil}
use lib.ListN.{length, get_or, replicate, length-append, get_or-append}
use lib.Seq.{get_or-append-add}
use Rattle.truth.specs.Passed.{Line, signal, negation, either, some_path, lifted, lines, line_word, line, line_of, line_words, operation_place, operand_place, argument_place, next_head, word, record_word}
use Rattle.comparison.specs.Comparison.{rule_head}
use Rattle.comparison.specs.inner.Lines.{Entry, sig, neg, alt, next, words, written_words, sheet, entry}

-- the words of one line below others
line-words-added : (ls more : List Entry) → written_words (ls ++ more) ≡ written_words ls ++ written_words more
unfolding written_words
line-words-added [] more = refl
line-words-added (l ∷ ls) more = ap (λ (r : List ℕ). words l ++ r) (line-words-added ls more) ∙ sym (append_assoc (words l) (written_words ls) (written_words more))

pub words-below : (ls : List Entry) (l : Entry) → written_words (ls ++ l ∷ []) ≡ written_words ls ++ words l
unfolding written_words
words-below ls l = line-words-added ls (l ∷ []) ∙ ap (λ (r : List ℕ). written_words ls ++ r) (append-nil (words l))

-- line j of a sheet, taken apart; `arg` are the argument words of a path line
unfoldable pub decoded : (ℕ → ℕ) → Entry → Line
decoded arg (sig i) = signal i
decoded arg (neg j) = negation j
decoded arg (alt i j) = either i j
decoded arg (next j) = some_path 1 arg

length-words : (l : Entry) → length (words l) ≡ line_words
unfolding words
length-words (sig i) = refl
length-words (neg j) = refl
length-words (alt i j) = refl
length-words (next j) = refl

length-written_words : (ls : List Entry) → length (written_words ls) ≡ line_words * length ls
unfolding written_words
length-written_words [] = refl
length-written_words (l ∷ ls) = omega (arith, length-append (words l) (written_words ls), length-words l, length-written_words ls)

pub length-sheet : (ls : List Entry) → length (sheet ls) ≡ next_head + line_words * length ls
unfolding sheet
length-sheet ls = omega (arith, length-written_words ls)

pub lines_are : (ls : List Entry) → lines (sheet ls) ≡ length ls
unfolding word sheet
lines_are ls = refl

-- one value at the end of a list, as 0 at the end of words, and past it
pub padded : {A : Type 0} {v : A} (p : List A) (n k : ℕ) → length p ≤ k → get_or (p ++ replicate n v) k v ≡ v
padded [] zero k h = refl
padded [] (suc n) zero h = refl
padded [] (suc n) (suc k) h = padded [] n k (omega arith)
padded (x ∷ p) n zero h = absurd (omega arith)
padded (x ∷ p) n (suc k) h = padded p n k (omega arith)

-- word k of record i, counted from 0; past the end both sides are 0
pub word-of-line : (ls : List Entry) (i k : ℕ) → k < line_words → get_or (written_words ls) (line_words * i + k) 0 ≡ get_or (words (get_or ls i (sig 0))) k 0
unfolding written_words words
word-of-line [] i k h = sym (padded [] line_words k (omega arith))
word-of-line (l ∷ ls) zero k h =
    let e : line_words * 0 + k ≡ k = omega arith in
    let b : k < length (words l) = omega (arith, length-words l) in
    ap (λ (n : ℕ). get_or (words l ++ written_words ls) n 0) e ∙ get_or-append (words l) (written_words ls) 0 k b
word-of-line (l ∷ ls) (suc i) k h =
    let e : line_words * suc i + k ≡ length (words l) + (line_words * i + k) = omega (arith, length-words l) in
    ap (λ (n : ℕ). get_or (words l ++ written_words ls) n 0) e ∙ get_or-append-add (words l) (written_words ls) (line_words * i + k) 0 ∙ word-of-line ls i k h

-- ---- the sheet, read as a rule of the logic

module _ (ls : List Entry) (j : ℕ) where
  pub word-is : (l : Entry) → entry ls j ≡ l → (k : ℕ) → k < line_words → line_word (lifted line_words) (sheet ls) j k ≡ get_or (words l) k 0
  unfolding record_word lifted sheet entry
  word-is l e k h =
      let at : next_head + line_words * (j - 1) + k ≡ next_head + (line_words * (j - 1) + k) = omega arith in
      ap (λ (n : ℕ). get_or (rule_head (length ls) ++ written_words ls) n 0) at
      ∙ get_or-append-add (rule_head (length ls)) (written_words ls) (line_words * (j - 1) + k) 0
      ∙ word-of-line ls (j - 1) k h
      ∙ ap (λ (x : Entry). get_or (words x) k 0) e

  line-by : (l : Entry) → entry ls j ≡ l → line (lifted line_words) (sheet ls) j ≡ decoded (λ i. line_word (lifted line_words) (sheet ls) j (argument_place i)) l
  unfolding line decoded words
  line-by (sig i) e =
      ap (line_of (lifted line_words) (sheet ls) j) (word-is (sig i) e operation_place (omega arith)) ∙ ap signal (word-is (sig i) e operand_place (omega arith))
  line-by (neg i) e =
      ap (line_of (lifted line_words) (sheet ls) j) (word-is (neg i) e operation_place (omega arith)) ∙ ap negation (word-is (neg i) e operand_place (omega arith))
  line-by (alt i k) e =
      ap (line_of (lifted line_words) (sheet ls) j) (word-is (alt i k) e operation_place (omega arith))
      ∙ ap₂ either (word-is (alt i k) e operand_place (omega arith)) (word-is (alt i k) e (operand_place + 1) (omega arith))
  line-by (next i) e =
      ap (line_of (lifted line_words) (sheet ls) j) (word-is (next i) e operation_place (omega arith))
      ∙ ap (λ (x : ℕ). some_path x (λ k. line_word (lifted line_words) (sheet ls) j (argument_place k))) (word-is (next i) e operand_place (omega arith))

  -- line j of the sheet is line j of the list
  pub line-is : line (lifted line_words) (sheet ls) j ≡ decoded (λ i. line_word (lifted line_words) (sheet ls) j (argument_place i)) (entry ls j)
  line-is = line-by (entry ls j) refl

  -- the argument of a path line
  pub argument_is : (i : ℕ) → entry ls j ≡ next i → line_word (lifted line_words) (sheet ls) j (argument_place 0) ≡ i
  unfolding words
  argument_is i e = word-is (next i) e (argument_place 0) (omega arith)
