-- What labelling answers: refused by the first "no" of its table with every lent word as before, or done.
use mathlib.Core.Path.{◌≡◌, refl, sym, ap, ◌∙◌}
use mathlib.Core.Logic.Iff
use mathlib.Core.Logic.{◌↔◌}
use Prim.Native.Nat.{ℕ, ◌-◌, ◌^◌, ◌<◌}
use native.Mathlib.Omega.{arith}
use mathlib.Core.List.{List}
use mathlib.Core.Bool.{Bool}
use lib.ListN.{length, get_or}
use lib.Dec.{T}
use Rattle.sheets.specs.Words.{word}
use Rattle.std.specs.Prelude.{Ok, Err}
use Rattle.sheets.specs.Questions as Questions
use Rattle.sheets.specs.Questions.{none as no_refusal, first_no}
use Rattle.sheets.specs.Refusals.{refusal_of}
use Rattle.sheets.specs.declared.refusal.Refusal.{Refusal}
use Rattle.sheets.specs.Machine.{nodes}
use Rattle.sheets.specs.Rules.{lent, lines}
use Rattle.sheets.proofs.AcceptedMachine.{nodes-sized}
use Rattle.sheets.proofs.AcceptedRule.{some-line}
use Rattle.truth.specs.Sizes.{members_most, low_at, high_at, row_word_bits}
use Rattle.truth.specs.inner.Rows.{held, tally}
use Rattle.truth.specs.Labelling.{label_questions, Rows, row_ones, StartsIn, percent}
use Rattle.truth.specs.LabelAnswers.{Leaves, LabelAnswer}
use Rattle.sheets.proofs.CheckAnswers.{numbered}
use Rattle.truth.proofs.tables.RowBits.{row-bit}
use Rattle.truth.proofs.rows.RowLaws.{held-count}
use Rattle.truth.proofs.labelling.LabelTable.{machine-accepted, rules-accepted}
use Rattle.truth.proofs.labelling.StartRows.{keeps-last}

module _ (M R before : List ℕ) where
  -- the sheets or the space are refused, and nothing was written
  pub refused : (refusal : Refusal) → refusal_of {A = Unit {0}} (Err refusal) ≡ first_no (label_questions M R (length before)) → LabelAnswer M R before before (Err refusal)
  unfolding Leaves
  refused refusal e = record { refusal = e; leaves = (omega (arith, numbered refusal), refl) }

  -- nothing is; the last row is that of two words
  module _ (none : no_refusal ≡ first_no (label_questions M R (length before))) where
    pub asked : 0 ≡ (first_no (label_questions M R (length before))).number
    unfolding no_refusal
    asked = ap (λ (r : Questions.Refusal). r.number) none

    pub done : (after : List ℕ) (low high l : ℕ) (kept : Bool) (count share : ℕ) → Rows M R before after → l ≡ lines R
        → low ≡ get_or after (low_at (l - 1)) 0 → high ≡ get_or after (high_at (l - 1)) 0 → low < 2 ^ row_word_bits → high < 2 ^ row_word_bits
        → T kept ↔ StartsIn M (held low high) → count ≡ tally members_most (held low high) → share ≡ percent count (nodes M)
        → LabelAnswer M R before after (Ok (record { kept = kept; count = count; percent = share }))
    unfolding Leaves row_ones word
    done after low high l kept count share rows el lo hi ll lh k counted shared =
        let some = some-line lent R (rules-accepted M R (length before) asked) in
        let most = (nodes-sized M (machine-accepted M R (length before) asked)).1 in
        record {
          refusal = none;
          leaves = record {
            rows = rows;
            keeps = Iff.trans k (keeps-last M R before after rows some (held low high) (λ s a b. rw (lo, hi, el) (row-bit after (lines R) s a (omega arith))));
            counted = counted ∙ sym (held-count low high ll lh) ∙ rw (lo, hi, el) refl;
            shared = shared;
          };
        }
