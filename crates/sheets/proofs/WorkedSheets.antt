-- The worked sheets of document 01 under the questions: those that are accepted, and the marked cases (g), (h), (i), (j).
use mathlib.Core.Path.{◌≡◌, refl}
use Rattle.sheets.specs.Words.{bit, each, all_of, any_of, member, indicator, how_many, chain}
use Rattle.sheets.specs.Records.{record_word}
use Rattle.sheets.specs.Questions.{none, first_no}
use Rattle.sheets.specs.Machine.{machine_questions, machine_refusal}
use Rattle.sheets.specs.Rules.{fits, lent, leads, keep, passing, reached, walks, unmixed, distinct, transitions_fit, automaton_fits, total, automaton_total, unused, refers_above, path_fits, line_fits, rule_questions, rule_refusal, q7, q8, q9, q10, q11, q12, q13, q14, q15}
use Rattle.sheets.specs.Worked.{M1, M2, M3, M5, M6, NextSheet, MixedSheet, PartialSheet, SelfLinked, ExtraSignal}

pub record MachineCases : Type 0 where
  pub m1 : machine_refusal M1 ≡ 0
  pub m2 : machine_refusal M2 ≡ 0
  pub m3 : machine_refusal M3 ≡ 0
  pub m5 : machine_refusal M5 ≡ 0
  pub m6 : machine_refusal M6 ≡ 0
  pub case-i : machine_refusal SelfLinked ≡ 5
  pub case-j : machine_refusal ExtraSignal ≡ 3

pub machine-cases : MachineCases
unfolding machine_questions first_no record_word
machine-cases = record { m1 = refl; m2 = refl; m3 = refl; m5 = refl; m6 = refl; case-i = refl; case-j = refl }

pub record RuleCases : Type 0 where
  pub next-sheet : rule_refusal lent NextSheet ≡ 0
  pub case-g : rule_refusal lent MixedSheet ≡ 14
  pub case-h : rule_refusal lent PartialSheet ≡ 13

pub rule-cases : RuleCases
unfolding rule_questions first_no none q7 q8 q9 q10 q11 q12 q13 q14 q15 fits leads keep passing reached walks unmixed distinct transitions_fit automaton_fits total automaton_total unused refers_above path_fits line_fits record_word bit each all_of any_of member indicator how_many chain
rule-cases = record { next-sheet = refl; case-g = refl; case-h = refl }
