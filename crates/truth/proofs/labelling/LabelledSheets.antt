-- What labelling answers on an accepted sheet whose truths are known: done, with their bits in the rows, whether the rule is kept, the
-- count and the percent.
use mathlib.Core.Path.{◌≡◌, sym, ap, ◌∙◌}
use mathlib.Core.Logic.Iff
use mathlib.Core.Logic.{◌↔◌, ⊎_elim}
use Prim.Native.Nat.{ℕ, ◌+◌, ◌-◌, ◌*◌, ◌^◌, ◌≤◌, ◌<◌}
use native.Mathlib.Omega.{arith}
use mathlib.Core.List.{List}
use mathlib.Core.Bool.{Bool, false}
use lib.ListN.{length}
use lib.Dec.{T}
use Rattle.sheets.specs.Words.{word}
use Rattle.std.specs.Prelude.{Result, Ok, Err}
use Rattle.sheets.specs.Questions as Questions
use Rattle.sheets.specs.Questions.{none as no_refusal}
use Rattle.sheets.specs.declared.refusal.Refusal.{Refusal}
use Rattle.sheets.specs.Machine.{nodes, signals, machine_refusal}
use Rattle.sheets.specs.Rules.{lent, lines, over_signals, rule_refusal}
use Rattle.sheets.proofs.Search.{le-or-gt}
use Rattle.sheets.proofs.Counting.{number}
use Rattle.sheets.proofs.Positions.{same_tests}
use Rattle.sheets.proofs.AcceptedMachine.{nodes-sized}
use Rattle.sheets.proofs.AcceptedRule.{some-line}
use Rattle.sheets.specs.Format.{nodes_most}
use Rattle.truth.specs.Sizes.{members_most, row_words, row_word_bits}
use Rattle.truth.specs.Truth.{TrueAt, Keeps}
use Rattle.truth.specs.Labelling.{row_bit, Rows, percent}
use Rattle.truth.specs.LabelAnswers.{LabelledAs, Leaves, LabelAnswer}
use Rattle.truth.specs.Worked.{Labels}
use Rattle.truth.specs.declared.labelling.Labelled.{Labelled}
use Rattle.sheets.proofs.CheckAnswers.{numbered}
use Rattle.truth.proofs.labelling.LabelTable.{label-accepts}
use Rattle.truth.proofs.labelling.LabelCounts.{number_same, ones-counted}

-- found so
abbrev labelled : Bool → ℕ → ℕ → Result Labelled Refusal
labelled kept count share = Ok (record { kept = kept; count = count; percent = share })

module _ (M R : List ℕ) (machine : machine_refusal M ≡ 0) (rules : rule_refusal lent R ≡ 0) (over : T (over_signals lent (signals M) R)) where
  never-refused : (before after : List ℕ) (refusal : Refusal) → row_words * lines R ≤ length before → LabelAnswer M R before after (Err refusal) → ⊥
  unfolding no_refusal
  never-refused before after refusal room a =
      numbered refusal (ap (λ (r : Questions.Refusal). r.number) (a.refusal ∙ label-accepts M R (length before) machine rules over room))

  small : nodes M ≤ nodes_most
  small = (nodes-sized M machine).1

  some : 1 ≤ lines R
  some = some-line lent R rules

  -- where each line holds
  module _ (holds : ℕ → ℕ → Bool) (truth : (j s : ℕ) → 1 ≤ j → j ≤ lines R → 1 ≤ s → s ≤ nodes M → T (holds j s) ↔ TrueAt lent M R j s)
      (clear : (j s : ℕ) → nodes M < s → holds j s ≡ false) where
    bits : (before after : List ℕ) → Rows M R before after → (j s : ℕ) → 1 ≤ j → j ≤ lines R → 1 ≤ s → s ≤ members_most → row_bit after j s ≡ holds j s
    bits before after rows j s lo hi l h =
        ⊎_elim
        (λ a. let e = Iff.trans (rows.truth j s lo hi l a) (Iff.symm (truth j s lo hi l a)) in same_tests (row_bit after j s) (holds j s) e.0 e.1)
        (λ a. rows.clear j s lo hi a h ∙ sym (clear j s a)) (le-or-gt s (nodes M))

    row-bits : (before after : List ℕ) (answer : Result Labelled Refusal) → row_words * lines R ≤ length before → LabelAnswer M R before after answer
        → (j s : ℕ) → 1 ≤ j → j ≤ lines R → 1 ≤ s → s ≤ members_most → row_bit after j s ≡ holds j s
    unfolding Leaves
    row-bits before after (Err refusal) room a = absurd (never-refused before after refusal room a)
    row-bits before after (Ok found) room a = bits before after a.leaves.rows

    module _ (kept : Bool) (keeps : T kept ↔ Keeps lent M R) (count : ℕ) (counted : number (nodes M) (holds (lines R)) ≡ count)
        (share : ℕ) (shared : percent count (nodes M) ≡ share) where
      done : (before after : List ℕ) (k : Bool) (c p : ℕ) → ((i : ℕ) → word after i < 2 ^ row_word_bits) → LabelledAs M R before after k c p
          → labelled k c p ≡ labelled kept count share
      done before after k c p words l =
          let b = Iff.trans l.keeps (Iff.symm keeps) in
          let ek : k ≡ kept = same_tests k kept b.0 b.1 in
          let ones = ones-counted M R before after small some l.rows (words (row_words * (lines R - 1))) (words (row_words * (lines R - 1) + 1)) in
          let same = number_same (nodes M) (row_bit after (lines R)) (holds (lines R)) (λ s lo hi. bits before after l.rows (lines R) s some (omega arith) lo (omega (arith, small))) in
          let ec : c ≡ count = l.counted ∙ ones ∙ same ∙ counted in
          let ep : p ≡ share = l.shared ∙ ap (λ (x : ℕ). percent x (nodes M)) ec ∙ shared in
          rw (ek, ec, ep)

      answered : (before after : List ℕ) (answer : Result Labelled Refusal) → row_words * lines R ≤ length before → ((i : ℕ) → word after i < 2 ^ row_word_bits)
          → LabelAnswer M R before after answer → answer ≡ labelled kept count share
      unfolding Leaves
      answered before after (Err refusal) room words a = absurd (never-refused before after refusal room a)
      answered before after (Ok found) room words a = done before after found.kept found.count found.percent words a.leaves

      pub labels : Labels M R holds kept count share
      labels = record { machine = machine; rules = rules; over = over; answers = answered; rows = row-bits }
