-- What comparison answers: a refusal by the first "no"; else a refinement that nothing splits answers, by the start nodes in its blocks.
use mathlib.Core.Path.{◌≡◌, refl}
use Prim.Native.Nat.{ℕ, ◌+◌, ◌*◌, ◌≤◌, ◌<◌}
use native.Mathlib.Omega.{arith}
use mathlib.Core.List.{List, [], ◌∷◌}
use lib.ListN.{length, get_or, length-append}
use Rattle.std.specs.Prelude.{Ok, Err}
use Rattle.truth.specs.Passed.{refusal_of}
use Rattle.truth.specs.Passed.{Refused as Refusal}
use Rattle.truth.proofs.Passed.{numbered}
use Rattle.truth.specs.Passed.{first_no, nodes, signals, nodes_most, line_words, next_head}
use Rattle.truth.specs.inner.Rows.{rows_has}
use Rattle.truth.proofs.Passed.{nodes-sized}
use Rattle.comparison.specs.inner.Sizes.{written_space, written_most}
use Rattle.comparison.specs.inner.Lines.{Entry, neg, sheet, Downward, HoldsLines, Lists, Pushed}
use Rattle.comparison.specs.inner.Needed.{Listed, ShortSheet}
use Rattle.comparison.specs.inner.Refinement.{LinesIn}
use Rattle.comparison.specs.inner.Stages.{Partitioned}
use Rattle.std.specs.Prelude.{None, Some}
use Rattle.comparison.specs.declared.writing.Written.{Written}
use Rattle.comparison.specs.inner.Sides.{OneSided}
use Rattle.comparison.specs.CompareAnswers.{comparison_questions, Leaves, CompareAnswer}
use Rattle.comparison.specs.declared.blocks.Partition.{Partition}
use Rattle.comparison.specs.declared.compare.Answer.TheVariants.{Equal, Unequal}
use Rattle.comparison.proofs.CompareTable.{Compared, compared, none-refused}
use Rattle.comparison.proofs.Refinement.{blocks-few}
use Rattle.comparison.proofs.TellingApart.{negated, down-negated}
use Rattle.comparison.proofs.ShorterRules.{told-shorter}
use Rattle.comparison.proofs.Outcome.{same-rules, unequal, equal}
use Rattle.comparison.proofs.WrittenSheet.{written}

module _ (M₁ M₂ before : List ℕ) where
  pub refused : (refusal : Refusal) → refusal_of {A = Unit {0}} (Err refusal) ≡ first_no (comparison_questions M₁ M₂ (length before))
      → CompareAnswer M₁ M₂ before before (Err refusal)
  unfolding Leaves
  refused refusal e = record { refusal = e; leaves = (let some = numbered refusal in omega arith, refl) }

  module _ (e : 0 ≡ (first_no (comparison_questions M₁ M₂ (length before))).number) where
    -- both machines may be refined
    pub known : Compared M₁ M₂ (length before)
    known = compared M₁ M₂ (length before) e

    pub small : (nodes M₁ ≤ nodes_most) × (nodes M₂ ≤ nodes_most)
    small = let k = known in ((nodes-sized M₁ k.first).1, (nodes-sized M₂ k.second).1)

    module _ (p : Partition) (r : Partitioned M₁ M₂ p) where
      few-blocks : p.count ≤ nodes M₁ + nodes M₂
      few-blocks =
          let k = known in
          blocks-few (signals M₁) M₁ M₂ k.first k.second r.ls p.count (λ c. get_or p.line c 0) (rows_has p.rows.first) (rows_has p.rows.second) r.refinement

      -- the lines and one more fit the space
      pub fits : (p.count ≤ nodes_most) × (next_head + line_words * (p.lines.count + 1) ≤ length before) × (p.lines.count < written_most)
      fits =
          let k = known in
          let short = r.short in
          let few = r.refinement.down.few in
          let blocks = few-blocks in
          (omega arith, omega arith, omega arith)

      pub equal-answer : OneSided M₁ M₂ (rows_has p.rows.first) (rows_has p.rows.second) p.count None → CompareAnswer M₁ M₂ before before (Ok Equal)
      unfolding Leaves
      equal-answer s =
          let k = known in
          record {
            refusal = none-refused M₁ M₂ (length before) e;
            leaves = (
              equal M₁ M₂ k.first k.second
                  (same-rules (signals M₁) M₁ M₂ k.first k.second r.ls p.count (λ c. get_or p.line c 0) (rows_has p.rows.first) (rows_has p.rows.second) r.refinement
                  r.signals-done r.nexts-done s),
              refl,
            );
          }

      -- "not" of the line of the block was written below the lines
      module _ (c : ℕ) (s : OneSided M₁ M₂ (rows_has p.rows.first) (rows_has p.rows.second) p.count (Some c)) (w : Written) (size : length p.lines.words ≡ written_space)
          (pushed : Pushed p.lines w (neg (get_or p.line c 0) ∷ [])) where
        told : List Entry
        told = negated r.ls (get_or p.line c 0)

        told-down : Downward (signals M₁) told
        unfolding LinesIn told
        told-down =
            let inside = r.refinement.lines c s.0 in
            down-negated (signals M₁) r.ls r.refinement.down (get_or p.line c 0) inside.0 inside.1

        told-count : length told ≡ w.count
        unfolding told
        told-count =
            let number = r.number in
            let one = pushed.count in
            omega (arith, length-append r.ls (neg (get_or p.line c 0) ∷ []))

        told-holds : HoldsLines w.words told
        unfolding told
        told-holds = pushed.adds.adds r.ls r.number (record { size = size; stands = rw r.number r.stands })

        told-lists : Lists (signals M₁) w told
        told-lists = record { down = told-down; holds = told-holds; count = told-count }

        pub listed : Listed w
        listed = record { a = signals M₁; lines = told; lists = told-lists }

        pub unequal-answer : (after : List ℕ)
            → ((a : ℕ) (ls : List Entry) → Lists a w ls → ShortSheet a ls before after)
            → CompareAnswer M₁ M₂ before after (Ok Unequal)
        unfolding Leaves told
        unequal-answer after stands =
            let k = known in
            let blocks = few-blocks in
            let short = r.short in
            let count = told-count in
            let one = pushed.count in
            let wrote = stands (signals M₁) told told-lists in
            let fewer = wrote.shortened.few in
            record {
              refusal = none-refused M₁ M₂ (length before) e;
              leaves = (
                sheet wrote.short,
                written M₁ M₂ k.first k.second k.same k.few wrote.short wrote.shortened.down wrote.shortened.some (omega arith)
                    (told-shorter M₁ M₂ k.first k.second (signals M₁) told wrote.short wrote.shortened
                    (unequal (signals M₁) M₁ M₂ k.first k.second r.ls p.count (λ c. get_or p.line c 0) (rows_has p.rows.first) (rows_has p.rows.second) r.refinement c s.0 s.1))
                    before after wrote.stands,
              );
            }
