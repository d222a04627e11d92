-- Whether the start nodes are all in a row: by the row of the start nodes that the code makes, and what it says of the last line.
use mathlib.Core.Path.{◌≡◌, sym, subst}
use mathlib.Core.Logic.{◌↔◌, ⊎_elim}
use Prim.Native.Nat.{ℕ, ◌≤◌}
use native.Mathlib.Omega.{arith}
use mathlib.Core.List.{List}
use mathlib.Core.Bool.{Bool, not, ◌&&◌}
use lib.Dec.{T, T_not, not_T, leb, eqb}
use borrow.Author.Tests.{le-leb, eq-eqb}
use Rattle.sheets.specs.Words.{within, each}
use Rattle.sheets.specs.Machine.{nodes, start_flag, kripke, machine_refusal}
use Rattle.sheets.specs.MachineForms.{q6}
use Rattle.sheets.specs.Rules.{lent, lines}
use Rattle.sheets.proofs.Tests.{and_left, and_right, and_both, surely}
use Rattle.sheets.proofs.Search.{within_in, each_at, each_in, find, le-or-gt}
use Rattle.sheets.proofs.Questions.{machine-answers}
use Rattle.sheets.proofs.AcceptedMachine.{start-node, flag-most}
use Rattle.sheets.specs.Format.{nodes_most}
use Rattle.truth.specs.Sizes.{members_most}
use Rattle.truth.specs.Truth.{Keeps}
use Rattle.truth.specs.Labelling.{StartsIn, Rows, row_bit}

module _ (M : List ℕ) (small : nodes M ≤ nodes_most) where
  -- what the row of the start nodes has
  abbrev pub start_test : ℕ → Bool
  start_test s = leb s (nodes M) && (within 1 members_most s && eqb (start_flag M s) 1)

  pub start-tested : (s : ℕ) → T ((kripke M).start s) → T (start_test s)
  unfolding kripke
  start-tested s t =
      let h = start-node M s t in
      and_both (leb s (nodes M)) _ (subst T (sym (le-leb s (nodes M) h.1)) tt)
      (and_both (within 1 members_most s) (eqb (start_flag M s) 1) (within_in 1 members_most s h.0 (omega arith)) (and_right (within 1 (nodes M) s) (eqb (start_flag M s) 1) t))

  pub tested-start : (s : ℕ) → 1 ≤ s → T (start_test s) → T ((kripke M).start s)
  unfolding kripke
  tested-start s lo t =
      let flag = eqb (start_flag M s) 1 in
      and_both (within 1 (nodes M) s) flag
      (and_both (leb 1 s) (leb s (nodes M)) (subst T (sym (le-leb 1 s lo)) tt) (and_left (leb s (nodes M)) (within 1 members_most s && flag) t))
      (and_right (within 1 members_most s) flag (and_right (leb s (nodes M)) (within 1 members_most s && flag) t))

  -- a row with the start nodes that `last` has not, and whether it is empty
  pub starts-in : (start last left : ℕ → Bool) (b : Bool) → ((s : ℕ) → start s ≡ start_test s) → ((s : ℕ) → left s ≡ (start s && not (last s)))
      → b ≡ each members_most (λ s. not (left s)) → T b ↔ StartsIn M last
  unfolding StartsIn
  starts-in start last left b starts lefts e = (
    λ t s k.
        let h = start-node M s k in
        surely (last s) (λ n.
        T_not (left s) (each_at members_most (λ s. not (left s)) (subst T e t) s h.0 (omega arith))
        (subst T (sym (lefts s)) (and_both (start s) (not (last s)) (subst T (sym (starts s)) (start-tested s k)) n))),
    λ f. subst T (sym e) (each_in members_most (λ s. not (left s)) (λ s lo hi.
        not_T (left s) (λ l.
        let t = subst T (lefts s) l in
        T_not (last s) (and_right (start s) (not (last s)) t) (f s (tested-start s lo (subst T (starts s) (and_left (start s) (not (last s)) t))))))),
  )

-- an accepted machine has a start node
pub some-start : (M : List ℕ) → machine_refusal M ≡ 0 → (s : ℕ) × T ((kripke M).start s)
unfolding kripke q6
some-start M accepted = ⊎_elim (λ r. (r.0, r.3)) (λ none. absurd (no_start none)) (find (nodes M) (kripke M).start)
  where
    no_start : ((s : ℕ) → 1 ≤ s → s ≤ nodes M → T (not ((kripke M).start s))) → ⊥
    no_start none =
        let a = machine-answers M accepted in
        T_not (each (nodes M) (λ s. eqb (start_flag M s) 0)) a.six (each_in (nodes M) (λ s. eqb (start_flag M s) 0) (λ s lo hi.
        let most = flag-most M accepted s lo hi in
        let other : start_flag M s ≡ 1 → ⊥ = λ e. T_not (within 1 (nodes M) s && eqb (start_flag M s) 1) (none s lo hi)
        (and_both (within 1 (nodes M) s) (eqb (start_flag M s) 1) (within_in 1 (nodes M) s lo hi) (subst T (sym (eq-eqb (start_flag M s) 1 e)) tt)) in
        let e : start_flag M s ≡ 0 = ⊎_elim (λ l. omega arith) (λ l. absurd (other (omega arith))) (le-or-gt (start_flag M s) 0) in
        subst T (sym (eq-eqb (start_flag M s) 0 e)) tt))

-- the start nodes are all in the last row where the machine keeps the rule
pub keeps-last : (M R before after : List ℕ) → Rows M R before after → 1 ≤ lines R → (last : ℕ → Bool)
    → ((s : ℕ) → 1 ≤ s → s ≤ nodes M → row_bit after (lines R) s ≡ last s) → StartsIn M last ↔ Keeps lent M R
unfolding StartsIn Keeps
keeps-last M R before after rows some last same = (
  λ f s k.
      let h = start-node M s k in
      (rows.truth (lines R) s some (omega arith) h.0 h.1).0 (subst T (sym (same s h.0 h.1)) (f s k)),
  λ f s k.
      let h = start-node M s k in
      subst T (same s h.0 h.1) ((rows.truth (lines R) s some (omega arith) h.0 h.1).1 (f s k)),
)
