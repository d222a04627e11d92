-- A written line, taken apart: its first word tells which kind it is.
use mathlib.Core.Path.{◌≡◌, refl, sym, ap, ap₂, ◌∙◌}
use Prim.Native.Nat.{ℕ, ◌+◌, ◌-◌, ◌*◌, ◌≤◌, ◌<◌}
use native.Mathlib.Omega.{arith}
use mathlib.Core.List.{List}
use lib.ListN.{length, get_or}
use lib.Seq.{get_or-take}
use Rattle.truth.specs.Passed.{line_words, operation_place, operand_place, signal_operation, negation_operation, either_operation, some_path_operation}
use Rattle.comparison.specs.inner.Lines.{Entry, sig, neg, alt, next, words, written_words, entry, HoldsLines}
use Rattle.comparison.proofs.Lines.{word-of-line}

by-signal : (l : Entry) → get_or (words l) operation_place 0 ≡ signal_operation → l ≡ sig (get_or (words l) operand_place 0)
unfolding words
by-signal (sig i) e = refl
by-signal (neg j) e = absurd (omega arith)
by-signal (alt i j) e = absurd (omega arith)
by-signal (next j) e = absurd (omega arith)

by-negation : (l : Entry) → get_or (words l) operation_place 0 ≡ negation_operation → l ≡ neg (get_or (words l) operand_place 0)
unfolding words
by-negation (sig i) e = absurd (omega arith)
by-negation (neg j) e = refl
by-negation (alt i j) e = absurd (omega arith)
by-negation (next j) e = absurd (omega arith)

by-either : (l : Entry) → get_or (words l) operation_place 0 ≡ either_operation → l ≡ alt (get_or (words l) operand_place 0) (get_or (words l) (operand_place + 1) 0)
unfolding words
by-either (sig i) e = absurd (omega arith)
by-either (neg j) e = absurd (omega arith)
by-either (alt i j) e = refl
by-either (next j) e = absurd (omega arith)

by-rest : (l : Entry) → some_path_operation ≤ get_or (words l) operation_place 0 → l ≡ next (get_or (words l) (operand_place + 1) 0)
unfolding words
by-rest (sig i) e = absurd (omega arith)
by-rest (neg j) e = absurd (omega arith)
by-rest (alt i j) e = absurd (omega arith)
by-rest (next j) e = refl

module _ (w : List ℕ) (i k : ℕ) (lo : 1 ≤ i) (at : k ≡ line_words * (i - 1)) (ls : List Entry) (h : HoldsLines w ls) (hi : i ≤ length ls) where
  word_at : (n : ℕ) → n < line_words → get_or (words (entry ls i)) n 0 ≡ get_or w (k + n) 0
  unfolding entry
  word_at n m =
      let e : line_words * (i - 1) + n ≡ k + n = omega arith in
      let b : k + n < line_words * length ls = omega arith in
      sym (word-of-line ls (i - 1) n m)
      ∙ ap (λ (j : ℕ). get_or (written_words ls) j 0) e
      ∙ ap (λ (l : List ℕ). get_or l (k + n) 0) (sym h.stands)
      ∙ get_or-take (line_words * length ls) w (k + n) 0 b

  first : get_or (words (entry ls i)) operation_place 0 ≡ get_or w (k + operation_place) 0
  first = word_at operation_place (omega arith)

  pub taken-signal : get_or w (k + operation_place) 0 ≡ signal_operation → entry ls i ≡ sig (get_or w (k + operand_place) 0)
  taken-signal e = by-signal (entry ls i) (first ∙ e) ∙ ap sig (word_at operand_place (omega arith))

  pub taken_not : get_or w (k + operation_place) 0 ≡ negation_operation → entry ls i ≡ neg (get_or w (k + operand_place) 0)
  taken_not e = by-negation (entry ls i) (first ∙ e) ∙ ap neg (word_at operand_place (omega arith))

  pub taken-or : get_or w (k + operation_place) 0 ≡ either_operation → entry ls i ≡ alt (get_or w (k + operand_place) 0) (get_or w (k + (operand_place + 1)) 0)
  taken-or e = by-either (entry ls i) (first ∙ e) ∙ ap₂ alt (word_at operand_place (omega arith)) (word_at (operand_place + 1) (omega arith))

  pub taken_next : some_path_operation ≤ get_or w (k + operation_place) 0 → entry ls i ≡ next (get_or w (k + (operand_place + 1)) 0)
  taken_next e = by-rest (entry ls i) (omega (arith, first)) ∙ ap next (word_at (operand_place + 1) (omega arith))
