-- The first start node outside a set, found by a search through the nodes; and what it is where the set is the last row of a labelling: none
-- where the machine keeps the rule, otherwise a start node where the last line is not true.
use mathlib.Core.Path.{◌≡◌, sym, ap, subst, ◌∙◌}
use mathlib.Core.Logic.{◌↔◌}
use Prim.Native.Nat.{ℕ, ◌+◌, ◌-◌, ◌*◌, ◌≤◌, ◌<◌}
use native.Mathlib.Omega.{arith}
use mathlib.Core.List.{List}
use mathlib.Core.Bool.{Bool, true, false, true≢false}
use lib.Dec.{T, eqb, eqb→eq}
use lib.ListN.{length, get_or}
use borrow.Author.Tests.{eq-eqb}
use Rattle.truth.specs.Sizes.{row_words}
use Rattle.sheets.specs.Words.{within}
use Rattle.std.specs.Prelude.{Option, Some, None, Result, Ok, Err, MatchOption}
use Rattle.std.specs.List.{range_with_len, AllWithin, HoldsAt}
use Rattle.std.proofs.lemmas.List.FromFn.{length-range_with_len, get_or-range_with_len}
use Rattle.sheets.specs.Questions as Questions
use Rattle.sheets.specs.Questions.{first_no}
use Rattle.sheets.specs.declared.refusal.Refusal.{Refusal}
use Rattle.sheets.specs.Machine.{nodes, start_flag, kripke}
use Rattle.sheets.specs.Rules.{lent, lines}
use Rattle.sheets.proofs.Tests.{and_right, and_both, passed}
use Rattle.sheets.proofs.Search.{within_in}
use Rattle.sheets.proofs.AcceptedMachine.{start-node, nodes-sized}
use Rattle.sheets.proofs.AcceptedRule.{some-line}
use Rattle.truth.specs.Truth.{TrueAt}
use Rattle.truth.specs.inner.Rows.{held}
use Rattle.truth.specs.Labelling.{label_questions, StartsIn, Rows, row_bit}
use Rattle.truth.specs.LabelAnswers.{Leaves, LabelAnswer}
use Rattle.truth.specs.declared.labelling.Labelled.{Labelled}
use Rattle.sheets.proofs.CheckAnswers.{numbered}
use Rattle.truth.specs.Breaks.{OutsideAt, FirstOutside, BreaksAt, FirstBreak}
use Rattle.truth.proofs.tables.RowBits.{row-bit}
use Rattle.truth.proofs.labelling.LabelTable.{machine-accepted, rules-accepted, space-enough}
use Rattle.truth.proofs.labelling.StartRows.{keeps-last}

-- ---- the search

module _ (M : List ℕ) (p : ℕ → Bool) where
  -- node s is a start node that does not pass; if it is a start node, it passes
  abbrev pub Outside : ℕ → Type 0
  Outside s = (start_flag M s ≡ 1) × (p s ≡ false)

  abbrev pub Passes : ℕ → Type 0
  Passes s = start_flag M s ≡ 1 → p s ≡ true

  -- the numbers of the nodes
  abbrev numbers : List ℕ
  numbers = range_with_len 1 (nodes M)

  flagged : (s : ℕ) → T ((kripke M).start s) → start_flag M s ≡ 1
  unfolding kripke
  flagged s t = eqb→eq (start_flag M s) 1 (and_right (within 1 (nodes M) s) (eqb (start_flag M s) 1) t)

  starts : (s : ℕ) → 1 ≤ s → s ≤ nodes M → start_flag M s ≡ 1 → T ((kripke M).start s)
  unfolding kripke
  starts s lo hi flag =
      let yes : T (eqb (start_flag M s) 1) = subst T (sym (eq-eqb (start_flag M s) 1 flag)) tt in
      and_both (within 1 (nodes M) s) (eqb (start_flag M s) 1) (within_in 1 (nodes M) s lo hi) yes

  -- if the first k nodes pass that are start nodes, so does each of the numbers up to k
  passed-to : (k : ℕ) → k ≤ nodes M → AllWithin Passes numbers 0 k → (s : ℕ) → s ≤ k → T ((kripke M).start s) → T (p s)
  passed-to k most all s h t =
      let l = start-node M s t in
      let e : 1 + (s - 1) ≡ s = omega arith in
      let at = get_or-range_with_len 1 (nodes M) (s - 1) 0 (omega arith) ∙ e in
      subst T (sym (rw at at (all (s - 1) 0 (omega arith) (omega arith)) (flagged s t))) tt

  pub first-outside : (o : Option ℕ)
      → MatchOption o (AllWithin Passes numbers 0 (length numbers)) (λ s. Outside s × (i : ℕ) × (i < length numbers) × HoldsAt (λ y. y ≡ s) numbers i × AllWithin Passes numbers 0 i)
      → FirstOutside M p o
  unfolding StartsIn
  first-outside None all =
      let size = length-range_with_len 1 (nodes M) in
      λ s t. passed-to (nodes M) (omega arith) (rw size at all) s (start-node M s t).1 t
  first-outside (Some s) found =
      let i = found.1 in
      let size = length-range_with_len 1 (nodes M) in
      let l : i < nodes M = omega (arith, found.2, size) in
      let e : s ≡ 1 + i = sym (found.3 0) ∙ get_or-range_with_len 1 (nodes M) i 0 l in
      record {
        start = starts s (omega arith) (omega arith) found.0.0;
        outside = found.0.1;
        earlier = λ t h. passed-to i (omega arith) found.4 t (omega arith);
      }

-- ---- the last row of a labelling that nothing refuses

labelled-rows : (M R before after : List ℕ) (a : Result Labelled Refusal) → LabelAnswer M R before after a
    → 0 ≡ (first_no (label_questions M R (length before))).number → Rows M R before after
unfolding Leaves
labelled-rows M R before after (Err refusal) answer none =
    absurd (numbered refusal (ap (λ (x : Questions.Refusal). x.number) answer.refusal ∙ sym none))
labelled-rows M R before after (Ok found) answer none = answer.leaves.rows

module _ (M R before after : List ℕ) (a : Result Labelled Refusal) (answer : LabelAnswer M R before after a)
    (none : 0 ≡ (first_no (label_questions M R (length before))).number) where
  abbrev last_place : ℕ
  last_place = row_words * (lines R - 1)

  pub last-in : (1 ≤ lines R) × (row_words * lines R ≤ length after)
  last-in = (
    some-line lent R (rules-accepted M R (length before) none),
    omega (arith, (labelled-rows M R before after a answer none).size, space-enough M R (length before) none),
  )

  module _ (low high : ℕ) (o : Option ℕ) (lo : low ≡ get_or after last_place 0) (hi : high ≡ get_or after (last_place + 1) 0) where
    rows : Rows M R before after
    rows = labelled-rows M R before after a answer none

    same : (s : ℕ) → 1 ≤ s → s ≤ nodes M → row_bit after (lines R) s ≡ held low high s
    same s l h =
        let most = (nodes-sized M (machine-accepted M R (length before) none)).1 in
        rw (lo, hi) (row-bit after (lines R) s l (omega arith))

    true-there : (s : ℕ) → T ((kripke M).start s) → T (held low high s) ↔ TrueAt lent M R (lines R) s
    true-there s t =
        let h = start-node M s t in
        let at = rows.truth (lines R) s last-in.0 (omega arith) h.0 h.1 in
        let e = same s h.0 h.1 in
        (λ x. at.0 (subst T (sym e) x), λ x. subst T e (at.1 x))

    breaks-at : (s : ℕ) → OutsideAt M (held low high) s → BreaksAt M R s
    breaks-at s f = record {
      start = f.start;
      untrue = λ x. true≢false (sym (passed (held low high s) ((true-there s f.start).1 x)) ∙ f.outside);
      earlier = λ t l k. (true-there t k).0 (f.earlier t l k);
    }

    pub first-break : FirstOutside M (held low high) o → FirstBreak M R o
    first-break = elim o as (λ o. FirstOutside M (held low high) o → FirstBreak M R o) [
      | None ↦ (keeps-last M R before after rows last-in.0 (held low high) same).0
      | Some s ↦ breaks-at s
    ]
