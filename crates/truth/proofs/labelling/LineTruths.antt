-- The rows of the lines, written one after the other: the row of a line by the bits of the rows above it says the line's truth,
-- if those rows say the truths of theirs at the nodes of an accepted machine.
use mathlib.Core.Path.{◌≡◌, refl, sym, subst, ◌∙◌}
use mathlib.Core.Logic.Iff
use mathlib.Core.Logic.{◌↔◌, ⊎_elim}
use Prim.Native.Nat.{ℕ, ◌+◌, ◌-◌, ◌*◌, ◌≤◌, ◌<◌}
use native.Mathlib.Omega.{arith}
use mathlib.Core.List.{List}
use mathlib.Core.Bool.{Bool}
use lib.ListN.{length, set}
use lib.Dec.{T}
use Rattle.sheets.specs.Words.{word}
use Rattle.sheets.specs.Machine.{nodes, kripke, machine_refusal}
use Rattle.sheets.specs.Rules.{lent, automata, automaton, line, lines, rule_refusal}
use Rattle.sheets.proofs.AcceptedMachine.{nodes-sized, edge_stays}
use Rattle.sheets.proofs.FormedLines.{formed, over-most}
use Rattle.sheets.proofs.Search.{le-or-gt}
use Rattle.sheets.specs.Format.{nodes_most, signals_most}
use Rattle.truth.specs.Sizes.{row_words, members_most}
use Rattle.truth.specs.Truth.{Means, TrueAt}
use Rattle.truth.specs.inner.Rows.{held}
use Rattle.truth.specs.Labelling.{row_bit, RowsTo}
use Rattle.truth.specs.inner.OneLine.{LineRow}
use Rattle.truth.proofs.Bisimulation.{Bisimulation, equal-nodes, line-agrees}
use Rattle.truth.proofs.Recursion.{truth-recursion}
use Rattle.truth.proofs.tables.TableLaws.{stored-word, stored_here, stored_other, stored-length}
use Rattle.truth.proofs.tables.RowBits.{row-bit}

module _ (M R : List ℕ) (machine : machine_refusal M ≡ 0) (rules : rule_refusal lent R ≡ 0) where
  -- a node of the machine, and itself
  abbrev Same : ℕ → ℕ → Type 0
  Same s t = (s ≡ t) × ((1 ≤ s) × (s ≤ nodes M))

  same_nodes : Bisimulation signals_most (kripke M) (kripke M) Same
  same_nodes = equal-nodes signals_most (kripke M) (λ s. (1 ≤ s) × (s ≤ nodes M)) (λ s s' r. edge_stays M machine s r.0 r.1 s')

  -- a line is true at a node where it says so of rows that say the truths of the lines above it
  pub line-true : (P : ℕ → ℕ → Bool) (j : ℕ) → 1 ≤ j → j ≤ lines R
      → ((i s : ℕ) → 1 ≤ i → i < j → 1 ≤ s → s ≤ nodes M → T (P i s) ↔ TrueAt lent M R i s)
      → (s : ℕ) → 1 ≤ s → s ≤ nodes M → Means (kripke M) (automaton R) (λ i s. T (P i s)) (line lent R j) s ↔ TrueAt lent M R j s
  line-true P j lo hi above s l h =
      Iff.trans
      (line-agrees signals_most (kripke M) (kripke M) Same same_nodes (automata R) (automaton R) (λ i s. T (P i s)) (TrueAt lent M R) j
      (λ i l h s t b. rw (← b.0) (above i s l h b.1.0 b.1.1)) (line lent R j) (formed lent R rules signals_most (over-most lent R rules) j lo hi) s s (refl, (l, h)))
      (Iff.symm (truth-recursion lent M R rules j s lo hi))

  -- one row more: line k is the next, and its row's two words are stored
  module _ {before now : List ℕ} (after : List ℕ) {j : ℕ} (k a b : ℕ) (w : RowsTo M R j before now) (next : k ≡ j + 1) (most : k ≤ lines R)
      (fits : row_words * k ≤ length now) (row : LineRow M R now k (held a b)) (e : after ≡ set (set now (row_words * (k - 1)) a) (row_words * (k - 1) + 1) b) where
    room : row_words * (k - 1) + 1 < length now
    room = omega arith

    bit-old : (i s : ℕ) → 1 ≤ i → i ≤ j → 1 ≤ s → s ≤ members_most → row_bit after i s ≡ row_bit now i s
    bit-old i s lo hi l h =
        row-bit after i s l h ∙ rw e (stored_other now (k - 1) a b room (i - 1) s (λ q. omega arith)) ∙ sym (row-bit now i s l h)

    bit-new : (i s : ℕ) → i ≡ k → 1 ≤ s → s ≤ members_most → row_bit after i s ≡ held a b s
    bit-new i s q l h = row-bit after i s l h ∙ rw (q, e) (stored_here now (k - 1) a b room s)

    word-old : (i : ℕ) → row_words * k ≤ i → word after i ≡ word now i
    unfolding word
    word-old i h = rw e (stored-word now (k - 1) a b room i (λ q. omega arith) (λ q. omega arith))

    small : nodes M ≤ nodes_most
    small = (nodes-sized M machine).1

    truth-new : (s : ℕ) → 1 ≤ s → s ≤ nodes M → T (held a b s) ↔ TrueAt lent M R k s
    truth-new s l h =
        Iff.trans (row.truth s l h)
        (line-true (row_bit now) k (omega arith) most (λ i s lo hi l h. w.truth i s lo (omega arith) l h) s l h)

    pub written-more : RowsTo M R k before after
    written-more = record {
      size = rw e (stored-length now (k - 1) a b room ∙ w.size);
      truth = λ i s lo hi l h.
          ⊎_elim (λ q. subst (λ (x : Bool). T x ↔ TrueAt lent M R i s) (sym (bit-old i s lo q l (omega (arith, small)))) (w.truth i s lo q l h))
          (λ q. let z : i ≡ k = omega arith in
          subst (λ (x : Bool). T x ↔ TrueAt lent M R i s) (sym (bit-new i s z l (omega (arith, small)))) (rw z (truth-new s l h))) (le-or-gt i j);
      clear = λ i s lo hi l h.
          ⊎_elim (λ q. bit-old i s lo q (omega arith) h ∙ w.clear i s lo q l h)
          (λ q. bit-new i s (omega arith) (omega arith) h ∙ row.clear s l) (le-or-gt i j);
      rest = λ i h. word-old i h ∙ w.rest i (omega arith);
    }
