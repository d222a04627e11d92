-- A rule that comparison wrote at the head of the space: where it ends, and that labelling accepts it with both machines.
use mathlib.Core.Path.{◌≡◌, sym, ap, ◌∙◌}
use Prim.Native.Nat.{ℕ, ◌+◌, ◌*◌, ◌≤◌}
use native.Mathlib.Omega.{arith}
use mathlib.Core.List.{List}
use lib.ListN.{length, get_or, take, drop, length-append, get_or-append}
use lib.Seq.{take_at, get_or-take}
use lib.Dec.{eqb→eq}
use Rattle.sheets.specs.Format.{lines_most, line_words, next_head}
use Rattle.sheets.specs.Words.{word}
use Rattle.sheets.specs.Questions.{Refusal, none as no_refusal, first_no}
use Rattle.sheets.specs.Rules.{lent, lines, q8}
use Rattle.sheets.proofs.Questions.{rule-answers}
use Rattle.sheets.proofs.AcceptedMachine.{signals-sized}
use Rattle.truth.specs.Sizes.{row_words}
use Rattle.comparison.specs.Comparison.{Written, rule_head}
use Rattle.comparison.specs.CompareAnswers.{comparison_questions}
use Rattle.comparison.proofs.CompareTable.{Compared, compared}
use Rattle.explain.specs.Verdicts.{Labelable, Telling}

module _ (M₁ M₂ R before after : List ℕ) (w : Written M₁ M₂ R before after) where
  -- ---- where it ends

  head-word : (i : ℕ) → i + 1 ≤ next_head → word R i ≡ get_or (rule_head (lines R)) i 0
  unfolding word
  head-word i h = sym (get_or-take next_head R i 0 (omega arith)) ∙ ap (λ (l : List ℕ). get_or l i 0) w.head

  rule-length : length R ≡ next_head + line_words * lines R
  unfolding q8 word
  rule-length =
      let e = eqb→eq (length R) _ (rule-answers lent R w.accepted).eight in
      omega (arith, e, head-word 0 (omega arith), head-word 1 (omega arith), head-word 2 (omega arith))

  lines_after : lines after ≡ lines R
  unfolding word
  lines_after =
      ap lines w.stands ∙ get_or-append R (drop (length R) before) 0 _ (omega (arith, rule-length))

  module _ (end : ℕ) (e : end ≡ next_head + line_words * lines after) where
    ends : length R ≡ end
    ends = rule-length ∙ sym (e ∙ ap (λ (l : ℕ). next_head + line_words * l) lines_after)

    pub rule-within : end ≤ length after
    rule-within = omega (arith, ends, ap length w.stands, length-append R (drop (length R) before))

    pub rule-whole : take end after ≡ R
    rule-whole = ap (take end) w.stands ∙ take_at R (drop (length R) before) end ends

  -- ---- labelling accepts it

  module _ (asked : no_refusal ≡ first_no (comparison_questions M₁ M₂ (length before))) where
    known : Compared M₁ M₂ (length before)
    unfolding no_refusal
    known = compared M₁ M₂ (length before) (ap (λ (r : Refusal). r.number) asked)

    few-lines : lines R ≤ lines_most
    few-lines =
        let k = known in
        omega (arith, w.short, k.few, (signals-sized M₁ k.first).1)

    pub telling : Telling M₁ M₂ R
    unfolding Labelable no_refusal
    telling = record {
      first = ap (λ (r : Refusal). r.number) (w.labels₁ (row_words * lines_most) (omega (arith, few-lines)));
      second = ap (λ (r : Refusal). r.number) (w.labels₂ (row_words * lines_most) (omega (arith, few-lines)));
      apart = w.apart;
    }
