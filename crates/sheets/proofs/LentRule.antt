-- A sheet accepted in the form `lent` is also accepted as a rule of the logic, with line records as long and the same lines.
use mathlib.Core.Path.{◌≡◌, refl, subst, ap, fun_ext}
use Prim.Native.Nat.{ℕ}
use mathlib.Core.List.{List}
use mathlib.Core.Bool.{and-true}
use lib.ListN.{length}
use lib.Dec.{T, leb}
use Rattle.sheets.specs.Format.{variables_most, chained_most, rule_header, line_words, operation_place}
use Rattle.sheets.specs.Operations.{Operands, one_signal, lines_above, automaton_with_lines, no_operands, operation}
use Rattle.sheets.specs.Words.{within, each, all_of}
use Rattle.sheets.specs.Rules.{most, fits, lent, lifted, automata, states, lines, variables, initial, states_of, transitions_of, transitions_fit, line, line_of, line_word, operands_fit, line_fits, path_fits, rule_refusal, over_signals, q7, q8, q9, q10, q11, automaton_fits, q12, q13, q14, q15}
use Rattle.sheets.proofs.Tests.{and_left, and_right, and_both}
use Rattle.sheets.proofs.Search.{each_map}
use Rattle.sheets.proofs.Questions.{rule-answers, rule-accepted}

module _ (R : List ℕ) where
  lift-seven : T (q7 lent R) → T (q7 (lifted line_words) R)
  unfolding q7 lifted
  lift-seven t =
      simp and-true
      (and_both (leb rule_header (length R)) (leb 1 (lines R)) (search (and_left, t) depth 8) (search (and_left, and_right, t)))

  lift-nine : T (q9 lent R) → T (q9 (lifted line_words) R)
  unfolding q9 lifted
  lift-nine t = each_map (automata R) _ _ (λ x. and_right (fits (most variables_most) (variables R x)) (within 1 (states R) (initial R x))) t

  lift-twelve : T (q12 lent R) → T (q12 (lifted line_words) R)
  unfolding q12 automaton_fits lifted
  lift-twelve t =
      each_map (automata R) _ _ (λ x. and_right (fits (most chained_most) (length (states_of R x)))
      (all_of (states_of R x) (λ q. transitions_fit R (variables R x) (states_of R x) (transitions_of R q)))) t

  operands_same : (j : ℕ) (o : Operands) → operands_fit lent R j o ≡ operands_fit (lifted line_words) R j o
  unfolding operands_fit path_fits lifted
  operands_same j one_signal = refl
  operands_same j (lines_above n) = refl
  operands_same j automaton_with_lines = refl
  operands_same j no_operands = refl

  pub fifteen-same : q15 lent R ≡ q15 (lifted line_words) R
  unfolding q15 line_fits lifted
  fifteen-same = ap (each (lines R)) (fun_ext (λ j. operands_same j (operation (line_word lent R j operation_place)).operands))

  pub lifts : rule_refusal lent R ≡ 0 → rule_refusal (lifted line_words) R ≡ 0
  unfolding q8 q10 q11 q13 q14 lifted
  lifts e =
      let a = rule-answers lent R e in
      rule-accepted (lifted line_words) R (record {
        seven = lift-seven a.seven;
        eight = a.eight;
        nine = lift-nine a.nine;
        ten = a.ten;
        eleven = a.eleven;
        twelve = lift-twelve a.twelve;
        thirteen = a.thirteen;
        fourteen = a.fourteen;
        fifteen = subst T fifteen-same a.fifteen;
      })

  pub line_same : line lent R ≡ line (lifted line_words) R
  unfolding line line_of lifted
  line_same = refl

  pub over-same : (a : ℕ) → over_signals lent a R ≡ over_signals (lifted line_words) a R
  unfolding over_signals line line_of lifted
  over-same a = refl
