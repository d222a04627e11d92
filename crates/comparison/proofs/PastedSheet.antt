-- The sheet that a head and lines, pasted into the lent space, make.
use mathlib.Core.Path.{◌≡◌, refl, sym, ap, ap₂, ◌∙◌}
use Prim.Native.Nat.{ℕ, ◌+◌, ◌*◌}
use native.Mathlib.Omega.{arith}
use mathlib.Core.List.{List, ◌++◌}
use lib.ListN.{length, take, drop}
use lib.Seq.{paste, take_at, drop_at, drop-drop}
use Rattle.truth.specs.Passed.{line_words, next_head}
use Rattle.comparison.specs.Comparison.{next_words, rule_head}
use Rattle.comparison.specs.inner.Lines.{Entry, written_words, sheet, HoldsLines}
use Rattle.comparison.proofs.Lines.{length-sheet}

-- ---- a space of words with a head, then the words of n lines

head-length : (l : ℕ) → length (rule_head l) ≡ next_head
unfolding next_words
head-length l = refl

-- the words of so many lines
pub held : {w : List ℕ} {ls : List Entry} {n : ℕ} → HoldsLines w ls → length ls ≡ n → take (line_words * n) w ≡ written_words ls
held h len = rw len at h.stands

module _ (S S₁ S₂ w : List ℕ) (n : ℕ) (h₁ : S₁ ≡ rule_head n ++ drop next_head S) (h₂ : S₂ ≡ paste S₁ next_head w (line_words * n)) where
  -- what stands past the lines
  back : drop (next_head + line_words * n) S₁ ≡ drop (next_head + line_words * n) S
  back =
      let past : drop next_head S₁ ≡ drop next_head S = ap (drop next_head) h₁ ∙ drop_at (rule_head n) (drop next_head S) next_head (head-length n) in
      sym (drop-drop (line_words * n) next_head S₁) ∙ ap (drop (line_words * n)) past ∙ drop-drop (line_words * n) next_head S

  pub sheet-pasted : (ls : List Entry) → length ls ≡ n → take (line_words * n) w ≡ written_words ls → S₂ ≡ sheet ls ++ drop (length (sheet ls)) S
  unfolding sheet
  sheet-pasted ls len e =
      let all : next_head + line_words * n ≡ length (sheet ls) = omega (arith, length-sheet ls) in
      let front : take next_head S₁ ≡ rule_head (length ls) = ap (take next_head) h₁ ∙ take_at (rule_head n) (drop next_head S) next_head (head-length n) ∙ ap rule_head (sym len) in
      h₂ ∙ ap₂ (λ (a b : List ℕ). (a ++ b) ++ drop (next_head + line_words * n) S₁) front e
      ∙ ap (λ (r : List ℕ). (rule_head (length ls) ++ written_words ls) ++ r) (back ∙ ap (λ (i : ℕ). drop i S) all)
