-- The table of labelling: questions 1 to 16, then its own, of the space. Where no question refuses, both sheets are accepted and the space
-- is enough.
use mathlib.Core.Path.{◌≡◌, subst⁻¹}
use Prim.Native.Nat.{ℕ, ◌*◌, ◌≤◌}
use native.Mathlib.Omega.{arith}
use mathlib.Core.List.{List, [], ◌∷◌}
use borrow.Author.Tests.{le-leb}
use lib.Dec.{T, leb, leb→le}
use Rattle.sheets.specs.Words.{indicator}
use Rattle.sheets.specs.Questions.{none as no_refusal, Question, ask, first_no}
use Rattle.sheets.specs.Machine.{signals, machine_refusal}
use Rattle.sheets.specs.Rules.{lent, lines, over_signals, rule_refusal}
use Rattle.sheets.specs.Sheets.{sheet_of}
use Rattle.sheets.proofs.Questions.{AllYes}
use Rattle.sheets.proofs.SheetTable.{BothAccepted, Sheeted, call-accepted, call_passes}
use Rattle.truth.specs.Sizes.{row_words}
use Rattle.truth.specs.Labelling.{label_questions}

abbrev pub space_question : List ℕ → ℕ → List Question
space_question R space = ask 17 0 (leb (row_words * lines R) space) ∷ []

module _ (M R : List ℕ) (space : ℕ) where
  abbrev labelled : ℕ
  labelled = (first_no (label_questions M R space)).number

  space-sheeted : Sheeted (space_question R space)
  unfolding sheet_of indicator
  space-sheeted = omega arith

  module _ (e : 0 ≡ labelled) where
    accepted : BothAccepted M R × AllYes (space_question R space)
    unfolding label_questions
    accepted = call-accepted M R (space_question R space) e

    pub machine-accepted : machine_refusal M ≡ 0
    machine-accepted = accepted.0.machine

    pub rules-accepted : rule_refusal lent R ≡ 0
    rules-accepted = accepted.0.rules

    pub space-enough : row_words * lines R ≤ space
    space-enough = leb→le (row_words * lines R) space accepted.1.0

  -- accepted sheets, the rule over the machine's signals, and space enough: labelling refuses nothing
  pub label-accepts : machine_refusal M ≡ 0 → rule_refusal lent R ≡ 0 → T (over_signals lent (signals M) R) → row_words * lines R ≤ space
      → first_no (label_questions M R space) ≡ no_refusal
  unfolding label_questions
  label-accepts machine rules over enough =
      call_passes M R (space_question R space) space-sheeted (record { machine = machine; rules = rules; over = over })
      (subst⁻¹ T (le-leb (row_words * lines R) space enough) tt, tt)
