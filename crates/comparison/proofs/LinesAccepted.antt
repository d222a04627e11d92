-- A list of lines that refer only to lines above and to signals 1 to a makes a sheet that is accepted, and is over a signals.
use mathlib.Core.Path.{◌≡◌, refl, sym, subst, ◌∙◌}
use Prim.Native.Nat.{ℕ, ◌+◌, ◌-◌, ◌*◌, ◌≤◌, ◌<◌}
use native.Mathlib.Omega.{arith}
use mathlib.Core.List.{List, [], ◌∷◌}
use mathlib.Core.Bool.{Bool, ◌&&◌, and-true}
use lib.ListN.{length, get_or}
use lib.Dec.{T, leb, le→leb, eqb, eqb_refl}
use Rattle.truth.specs.Passed.{lent, lifted, within, each, variables, automata, line_word, line_fits, path_fits, refers_above, unused, line, rule_refusal, signal_most, over_signals, q7, q8, q9, q10, q11, q12, q13, q14, q15, signals_most, lines_most, rule_header, line_words, operation_place, operand_place, argument_place, signal_operation, negation_operation, either_operation, some_path_operation, next_head, word, record_word, chain}
use Rattle.comparison.specs.Comparison.{Rule}
use Rattle.truth.proofs.Passed.{and_both, within_in, each_in, rule-accepted, fifteen-same, over-same}
use Rattle.comparison.specs.inner.Lines.{Entry, sig, neg, alt, next, words, sheet, entry, Refers, Downward}
use Rattle.comparison.proofs.Lines.{padded, length-sheet, word-is, decoded, line-is}

module _ (ls : List Entry) (j : ℕ) where
  unused-is : (l : Entry) → entry ls j ≡ l → (c : ℕ) → c ≤ line_words → ((k : ℕ) → c ≤ k → get_or (words l) k 0 ≡ 0) → T (unused (lifted line_words) (sheet ls) j c)
  unfolding unused lifted
  unused-is l e c h z =
      and_both (leb c line_words) (each (line_words - c) (λ i. eqb (line_word (lifted line_words) (sheet ls) j (c + i - 1)) 0)) (le→leb c line_words h)
      (each_in (line_words - c) (λ i. eqb (line_word (lifted line_words) (sheet ls) j (c + i - 1)) 0) (λ i lo hi.
      let w = word-is ls j l e (c + i - 1) (omega arith) ∙ z (c + i - 1) (omega arith) in
      subst (λ (x : ℕ). T (eqb x 0)) (sym w) tt))

  above_word : (l : Entry) → entry ls j ≡ l → (k : ℕ) → k < line_words → 1 ≤ get_or (words l) k 0 → get_or (words l) k 0 < j
      → T (within 1 (j - 1) (line_word (lifted line_words) (sheet ls) j k))
  above_word l e k h lo hi =
      subst (λ (x : ℕ). T (within 1 (j - 1) x)) (sym (word-is ls j l e k h)) (within_in 1 (j - 1) (get_or (words l) k 0) lo (omega arith))

  path-fits : ℕ → Bool
  path-fits x = within 1 (automata (sheet ls)) x && refers_above (lifted line_words) (sheet ls) j operand_place (variables (sheet ls) x)
      && unused (lifted line_words) (sheet ls) j (argument_place (variables (sheet ls) x))

  next_fits : (i : ℕ) → entry ls j ≡ next i → 1 ≤ i → i < j → T (path-fits 1)
  unfolding path-fits record_word refers_above sheet words
  next_fits i e lo hi =
      and_both (refers_above (lifted line_words) (sheet ls) j operand_place 1) (unused (lifted line_words) (sheet ls) j (argument_place 1)) (above_word (next i) e (argument_place 0) (omega arith) lo hi)
      (unused-is (next i) e (argument_place 1) (omega arith) (padded (some_path_operation ∷ 1 ∷ i ∷ []) 3))

  -- with the operation written out
  fits_by : (a : ℕ) → a ≤ signals_most → (l : Entry) → entry ls j ≡ l → Refers a j l → T (line_fits (lifted line_words) (sheet ls) j (get_or (words l) operation_place 0))
  unfolding line_fits path_fits Refers words refers_above path-fits
  fits_by a small (sig i) e r =
      and_both (within 1 signals_most (line_word (lifted line_words) (sheet ls) j operand_place)) (unused (lifted line_words) (sheet ls) j (operand_place + 1))
      (subst (λ (x : ℕ). T (within 1 signals_most x)) (sym (word-is ls j (sig i) e operand_place (omega arith))) (within_in 1 signals_most i r.0 (omega arith)))
      (unused-is (sig i) e (operand_place + 1) (omega arith) (padded (signal_operation ∷ i ∷ []) 4))
  fits_by a small (neg i) e r =
      and_both (refers_above (lifted line_words) (sheet ls) j operation_place 1) (unused (lifted line_words) (sheet ls) j (operand_place + 1))
      (above_word (neg i) e operand_place (omega arith) r.0 r.1)
      (unused-is (neg i) e (operand_place + 1) (omega arith) (padded (negation_operation ∷ i ∷ []) 4))
  fits_by a small (alt i k) e r =
      and_both (refers_above (lifted line_words) (sheet ls) j operation_place 2) (unused (lifted line_words) (sheet ls) j (operand_place + 2))
      (and_both (within 1 (j - 1) (line_word (lifted line_words) (sheet ls) j operand_place)) (within 1 (j - 1) (line_word (lifted line_words) (sheet ls) j (operand_place + 1)))
      (above_word (alt i k) e operand_place (omega arith) r.0.0 r.0.1)
      (above_word (alt i k) e (operand_place + 1) (omega arith) r.1.0 r.1.1))
      (unused-is (alt i k) e (operand_place + 2) (omega arith) (padded (either_operation ∷ i ∷ k ∷ []) 3))
  fits_by a small (next i) e r = subst (λ (x : ℕ). T (path-fits x)) (sym (word-is ls j (next i) e operand_place (omega arith))) (next_fits i e r.0 r.1)

  fits_line : (a : ℕ) → a ≤ signals_most → Refers a j (entry ls j) → T (line_fits (lifted line_words) (sheet ls) j (line_word (lifted line_words) (sheet ls) j operation_place))
  fits_line a small r =
      subst (λ (x : ℕ). T (line_fits (lifted line_words) (sheet ls) j x)) (sym (word-is ls j (entry ls j) refl operation_place (omega arith))) (fits_by a small (entry ls j) refl r)

  over_by : (arg : ℕ → ℕ) (a : ℕ) (l : Entry) → Refers a j l → T (signal_most a (decoded arg l))
  unfolding Refers decoded signal_most
  over_by arg a (sig i) r = le→leb i a r.1
  over_by arg a (neg i) r = tt
  over_by arg a (alt i k) r = tt
  over_by arg a (next i) r = tt

module _ (a : ℕ) (ls : List Entry) (down : Downward a ls) where
  over-logic : T (over_signals (lifted line_words) a (sheet ls))
  unfolding over_signals word sheet
  over-logic =
      each_in (length ls) (λ j. signal_most a (line (lifted line_words) (sheet ls) j))
      (λ j lo hi. subst (λ l. T (signal_most a l)) (sym (line-is ls j)) (over_by ls j _ a (entry ls j) (down.refers j lo hi)))

  fifteen-logic : T (q15 (lifted line_words) (sheet ls))
  unfolding q15 word sheet
  fifteen-logic =
      each_in (length ls) (λ j. line_fits (lifted line_words) (sheet ls) j (line_word (lifted line_words) (sheet ls) j operation_place))
      (λ j lo hi. fits_line ls j a down.few (down.refers j lo hi))

  size : T (eqb (length (sheet ls)) (next_head + line_words * length ls))
  size = rw (length-sheet ls) (eqb_refl (next_head + line_words * length ls))

  module _ (some : 1 ≤ length ls) where
    sized : T (leb rule_header (length (sheet ls)) && leb 1 (length ls))
    sized =
        and_both (leb rule_header (length (sheet ls))) (leb 1 (length ls)) (le→leb rule_header (length (sheet ls)) (omega (arith, length-sheet ls))) (le→leb 1 (length ls) some)

    -- as a rule of the logic, whatever its length
    pub accepted : rule_refusal (lifted line_words) (sheet ls) ≡ 0
    unfolding q7 q8 q9 q10 q11 q12 q13 q14 chain record_word sheet lifted
    accepted = rule-accepted (lifted line_words) (sheet ls) (record {
      seven = simp and-true sized;
      eight = size;
      nine = tt;
      ten = tt;
      eleven = tt;
      twelve = tt;
      thirteen = tt;
      fourteen = tt;
      fifteen = fifteen-logic;
    })

    pub rule : Rule a line_words (sheet ls)
    rule = record { accepted = accepted; over = over-logic }

    -- as a lent sheet, if it has at most as many lines as one
    pub accepted-lent : length ls ≤ lines_most → rule_refusal lent (sheet ls) ≡ 0
    unfolding q7 q8 q9 q10 q11 q12 q13 q14 chain record_word sheet
    accepted-lent few = rule-accepted lent (sheet ls) (record {
      seven = simp and-true (and_both (leb rule_header (length (sheet ls)) && leb 1 (length ls)) (leb (length ls) lines_most) sized (le→leb (length ls) lines_most few));
      eight = size;
      nine = tt;
      ten = tt;
      eleven = tt;
      twelve = tt;
      thirteen = tt;
      fourteen = tt;
      fifteen = subst T (sym (fifteen-same (sheet ls))) fifteen-logic;
    })

  pub over-signals : T (over_signals lent a (sheet ls))
  over-signals = subst T (sym (over-same (sheet ls) a)) over-logic
