-- Lines of operation 3 and 4: their meaning is a path of their automaton, whose good states the operation gives. The rows of the lines
-- above one say their truths, so a path by the bits of the rows is a path by the truths, and so is the list that shows it.
use mathlib.Core.Path.{◌≡◌, refl, ap}
use mathlib.Core.Logic.Iff
use mathlib.Core.Logic.{◌↔◌, ⊎_elim}
use Prim.Native.Nat.{ℕ, suc, ◌-◌, ◌≤◌, ◌<◌}
use native.Mathlib.Omega.{arith}
use native.Mathlib.Decide.{le_ind}
use mathlib.Core.List.{List}
use mathlib.Core.Bool.{Bool, true, false}
use lib.Dec.{T, eqb}
use Rattle.sheets.specs.Format.{signals_most, operation_place, operand_place}
use Rattle.sheets.specs.Operations.{some_path_operation, some_path_not_operation}
use Rattle.sheets.specs.Words.{within}
use Rattle.sheets.specs.Structures.{Kripke}
use Rattle.sheets.specs.Machine.{nodes, kripke, machine_refusal}
use Rattle.sheets.specs.Rules.{lent, lines, automata, automaton, line, line_of, line_word, rule_refusal}
use Rattle.sheets.proofs.Search.{within-at, le-or-gt}
use Rattle.sheets.proofs.AcceptedMachine.{edge_stays}
use Rattle.sheets.proofs.FormedLines.{Formed, formed, over-most}
use Rattle.truth.specs.Truth.{Truths, SomePath, Means, TrueAt}
use Rattle.truth.specs.Labelling.{row_bit, row_truths, RowsTo}
use Rattle.truth.specs.Lists.{Lasso}
use Rattle.truth.specs.inner.Product.{argument, turned, good}
use Rattle.truth.specs.Path.{Shows}
use Rattle.truth.specs.inner.OneLine.{Holds}
use Rattle.truth.proofs.NamedPaths.{path-by-position, path-arguments}
use Rattle.truth.proofs.labelling.LineTruths.{line-true}
use Rattle.truth.proofs.path.SameLists.{lasso-truths}

-- ---- by the operation

-- the operation of a path line, with accepting and non-accepting states exchanged or not
abbrev pub operation : Bool → ℕ
operation false = some_path_operation
operation true = some_path_not_operation

pub operated : (op : ℕ) → T (within some_path_operation some_path_not_operation op) → op ≡ operation (eqb op some_path_not_operation)
operated op t =
    let r = within-at some_path_operation some_path_not_operation op t in
    ⊎_elim (λ l. let e : op ≡ some_path_operation = omega arith in rw e refl) (λ l. let e : op ≡ some_path_not_operation = omega arith in rw e refl) (le-or-gt op some_path_operation)

module _ (R : List ℕ) (j : ℕ) where
  abbrev pub auto : ℕ
  auto = line_word lent R j operand_place

  means-path : (exchanged : Bool) (K : Kripke) (above : Truths) (s : ℕ)
      → Means K (automaton R) above (line_of lent R j (operation exchanged)) s ↔ SomePath K (automaton R auto) above (argument R j) (good exchanged (automaton R auto)) s
  unfolding line_of Means turned
  means-path false K above s = (λ p. p, λ p. p)
  means-path true K above s = (λ p. p, λ p. p)

  shows-path : (exchanged : Bool) (K : Kripke) (above : Truths) (s : ℕ) (node state : ℕ → ℕ) (len back : ℕ)
      → Lasso K (automaton R auto) above (argument R j) (good exchanged (automaton R auto)) s node state len back
      → Shows K (automaton R) above (line_of lent R j (operation exchanged)) s node state len back
  unfolding line_of Shows turned
  shows-path false K above s node state len back l = l
  shows-path true K above s node state len back l = l

  refers-path : (exchanged : Bool) → Formed signals_most (automata R) (automaton R) j (line_of lent R j (operation exchanged))
      → ((1 ≤ auto) × (auto ≤ automata R)) × ((i : ℕ) → i < (automaton R auto).variables → (1 ≤ argument R j i) × (argument R j i < j))
  unfolding line_of Formed
  refers-path false f = f
  refers-path true f = f

-- ---- a path line of an accepted sheet, and the rows of the lines above it

module _ (M R : List ℕ) (machine : machine_refusal M ≡ 0) (rules : rule_refusal lent R ≡ 0) (j : ℕ) (lo : 1 ≤ j) (hi : j ≤ lines R)
    (exchanged : Bool) (kind : line_word lent R j operation_place ≡ operation exchanged) where
  line-is : line lent R j ≡ line_of lent R j (operation exchanged)
  unfolding line
  line-is = ap (line_of lent R j) kind

  pub path-refers : ((1 ≤ auto R j) × (auto R j ≤ automata R)) × ((i : ℕ) → i < (automaton R (auto R j)).variables → (1 ≤ argument R j i) × (argument R j i < j))
  path-refers = refers-path R j exchanged (rw line-is at (formed lent R rules signals_most (over-most lent R rules) j lo hi))

  -- with the lines of its variables as the code has them
  module _ (before rows : List ℕ) (written : RowsTo M R (j - 1) before rows) (arg : ℕ → ℕ)
      (same : (i : ℕ) → i < (automaton R (auto R j)).variables → arg i ≡ argument R j i) where
    -- the path exists by the bits of the rows where the line is true
    pub holds-true : (s : ℕ) → 1 ≤ s → s ≤ nodes M → Holds M R rows arg (auto R j) exchanged s ↔ TrueAt lent M R j s
    holds-true s l h =
        Iff.trans (Iff.symm (path-by-position lent R rules (auto R j) path-refers.0.0 path-refers.0.1 (kripke M) (row_truths rows) arg exchanged s))
        (Iff.trans (path-arguments (kripke M) (automaton R (auto R j)) (row_truths rows) (good exchanged (automaton R (auto R j))) s arg (argument R j) same)
        (Iff.trans (Iff.symm (means-path R j exchanged (kripke M) (row_truths rows) s))
        (rw line-is at (line-true M R machine rules (row_bit rows) j lo hi (λ i s a b l h. written.truth i s a (omega arith) l h) s l h))))

    module _ (s : ℕ) (l : 1 ≤ s) (h : s ≤ nodes M) (node state : ℕ → ℕ) (len back : ℕ)
        (list : Lasso (kripke M) (automaton R (auto R j)) (row_truths rows) arg (good exchanged (automaton R (auto R j))) s node state len back) where
      list-node : (i : ℕ) → 1 ≤ i → i ≤ len → (1 ≤ node i) × (node i ≤ nodes M)
      list-node =
          le_ind (λ i. i ≤ len → (1 ≤ node i) × (node i ≤ nodes M)) (λ b. rw list.starts (l, h))
          (λ i a in-range b. let k = in-range (omega arith) in edge_stays M machine (node i) k.0 k.1 (node (suc i)) (list.moves i a b))

      -- a list that shows the path by the bits shows it by the truths
      pub list-true : Shows (kripke M) (automaton R) (TrueAt lent M R) (line lent R j) s node state len back
      list-true =
          rw line-is
          (shows-path R j exchanged (kripke M) (TrueAt lent M R) s node state len back
          (lasso-truths (kripke M) (automaton R (auto R j)) arg (good exchanged (automaton R (auto R j))) s len back (row_truths rows) (TrueAt lent M R) (argument R j) node state
          (λ i k a b c.
          let on = list-node i a b in
          let above = path-refers.1 k c in
          rw (same k c) (written.truth (argument R j k) (node i) above.0 (omega (arith, above.1)) on.0 on.1)) list))
