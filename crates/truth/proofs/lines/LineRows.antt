-- The row of a line by the operation of the line, from what the code reads of the rows above it.
use mathlib.Core.Path.{◌≡◌, sym, subst, ◌∙◌}
use mathlib.Core.Logic.Iff
use mathlib.Core.Logic.{◌↔◌}
use Prim.Native.Nat.{ℕ, ◌-◌, ◌*◌, ◌≤◌, ◌<◌}
use native.Mathlib.Omega.{arith}
use mathlib.Core.List.{List}
use mathlib.Core.Bool.{Bool, true, false, not, ◌&&◌, ◌||◌}
use lib.ListN.{length}
use lib.Dec.{T, not_T, leb, leb→le, le→leb}
use Rattle.sheets.specs.Format.{signals_most, variables_most}
use Rattle.sheets.specs.Words.{within}
use Rattle.sheets.specs.Machine.{nodes, kripke, signal_at}
use Rattle.sheets.specs.Rules.{lent, automata, automaton}
use Rattle.sheets.specs.inner.Lines.{decoded}
use Rattle.sheets.specs.declared.lines.PathLine.{PathLine}
use Rattle.sheets.specs.declared.lines.Line.{Line}
use Rattle.sheets.specs.declared.lines.Line.TheVariants.{Signal, Negation, Either, SomePath, SomePathNot}
use Rattle.std.specs.Prelude.{Some, None}
use Rattle.sheets.proofs.Tests.{passed, failed, not_is, or_is}
use Rattle.sheets.proofs.Search.{within_in}
use Rattle.sheets.proofs.AcceptedMachine.{nodes-sized}
use Rattle.sheets.proofs.FormedLines as FormedLines
use Rattle.sheets.proofs.PositionedStates.{positioned-named, few-valued}
use Rattle.truth.specs.Sizes.{row_words, members_most}
use Rattle.truth.specs.inner.Rows.{rows_has}
use Rattle.truth.specs.Truth.{SomePath as PathFrom, Means}
use Rattle.truth.specs.Labelling.{row_truths}
use Rattle.truth.specs.inner.Product.{argument, argument_of, turned, good}
use Rattle.truth.specs.inner.OneLine.{LineReady, LineRow, PathReady, PathRow}
use Rattle.truth.proofs.NamedPaths.{path-by-position, path-arguments}
use Rattle.truth.proofs.tables.RowBits.{row-bit}
use Rattle.truth.proofs.lines.DecodedKinds.{meant, line-meant, line-carries, none-malformed, refers}

-- a path line, with accepting and non-accepting states exchanged or not
abbrev path_line : Bool → PathLine → Line
path_line false p = SomePath p
path_line true p = SomePathNot p

module _ {M R next back rows : List ℕ} {j : ℕ} (pre : LineReady M R next back rows j) where
  refer : (l : Line) → decoded R j ≡ Some l → FormedLines.Formed signals_most (automata R) (automaton R) j (meant R j l)
  refer = refers R j pre.ready.rules pre.from pre.to

  -- ---- what the lines referred to ask for

  above : {k : ℕ} → (1 ≤ k) × (k < j) → (1 ≤ k) × (row_words * k ≤ length rows)
  above r = (r.0, omega (arith, r.0, r.1, pre.above))

  pub negation-above : {k : ℕ} → decoded R j ≡ Some (Negation k) → (1 ≤ k) × (row_words * k ≤ length rows)
  unfolding FormedLines.Formed
  negation-above {k} e = above (refer (Negation k) e)

  pub either-above : {i k : ℕ} → decoded R j ≡ Some (Either i k) → ((1 ≤ i) × (row_words * i ≤ length rows)) × ((1 ≤ k) × (row_words * k ≤ length rows))
  unfolding FormedLines.Formed
  either-above {i} {k} e = let r = refer (Either i k) e in (above r.0, above r.1)

  path-asks : (p : PathLine) → ((i : ℕ) → i < variables_most → argument_of p i ≡ argument R j i)
      → ((1 ≤ p.automaton) × (p.automaton ≤ automata R)) × ((i : ℕ) → i < (automaton R p.automaton).variables → (1 ≤ argument R j i) × (argument R j i < j))
      → PathReady M R next back rows (argument_of p) p.automaton
  path-asks p carries r =
      let x = p.automaton in
      let few = few-valued R pre.ready.rules x r.0.0 r.0.1 in
      record {
        ready = pre.ready;
        from = r.0.0;
        to = r.0.1;
        arguments = λ i l.
            let on : (1 ≤ argument R j i) × (row_words * argument R j i ≤ length rows) = above (r.1 i (rw (positioned-named lent R pre.ready.rules x r.0.0 r.0.1).variables l)) in
            subst (λ (n : ℕ). (1 ≤ n) × (row_words * n ≤ length rows)) (sym (carries i (omega (arith, few)))) on;
      }

  pub path-ready : (exchanged : Bool) (p : PathLine) → decoded R j ≡ Some (path_line exchanged p) → PathReady M R next back rows (argument_of p) p.automaton
  unfolding FormedLines.Formed
  path-ready false p e = path-asks p (line-carries R j (SomePath p) e) (refer (SomePath p) e)
  path-ready true p e = path-asks p (line-carries R j (SomePathNot p) e) (refer (SomePathNot p) e)

  -- ---- the rows

  pub malformed-row : {row : ℕ → Bool} → decoded R j ≡ None → LineRow M R rows j row
  malformed-row e = absurd (none-malformed R j pre.ready.rules pre.from pre.to e)

  module _ {row : ℕ → Bool} where
    -- a row of those of the nodes that pass a test, where the test is the line's meaning
    among-nodes : (l : Line) → decoded R j ≡ Some l → (f : ℕ → Bool) → ((s : ℕ) → row s ≡ (leb s (nodes M) && (within 1 members_most s && f s)))
        → ((s : ℕ) → 1 ≤ s → s ≤ members_most → T (f s) ↔ Means (kripke M) (automaton R) (row_truths rows) (meant R j l) s) → LineRow M R rows j row
    among-nodes l e f is means = record {
      truth = λ s lo hi.
          let small : s ≤ members_most = omega (arith, (nodes-sized M pre.ready.machine).1) in
          let a = passed (leb s (nodes M)) (le→leb s (nodes M) hi) in
          let b = passed (within 1 members_most s) (within_in 1 members_most s lo small) in
          rw (line-meant R j l e, is s, a, b) (means s lo small);
      clear = λ s over.
          let a = failed (leb s (nodes M)) (not_T (leb s (nodes M)) (λ t. let h = leb→le s (nodes M) t in absurd (omega arith))) in
          is s ∙ rw a;
    }

    pub signal-row : {i : ℕ} → decoded R j ≡ Some (Signal i)
        → ((s : ℕ) → row s ≡ (leb s (nodes M) && (within 1 members_most s && signal_at M i s))) → LineRow M R rows j row
    unfolding Means kripke
    signal-row {i} e is = among-nodes (Signal i) e (signal_at M i) is (λ s lo hi. (λ t. t, λ t. t))

    pub negation-row : {k : ℕ} → decoded R j ≡ Some (Negation k)
        → ((s : ℕ) → row s ≡ (leb s (nodes M) && (within 1 members_most s && not (rows_has rows (k - 1) s)))) → LineRow M R rows j row
    unfolding Means
    negation-row {k} e is =
        among-nodes (Negation k) e (λ s. not (rows_has rows (k - 1) s)) is
        (λ s lo hi. rw (row-bit rows k s lo hi) (let b = not_is (rows_has rows (k - 1) s) in (b.1, b.0)))

    pub either-row : {i k : ℕ} → decoded R j ≡ Some (Either i k)
        → ((s : ℕ) → row s ≡ (leb s (nodes M) && (within 1 members_most s && (rows_has rows (i - 1) s || rows_has rows (k - 1) s)))) → LineRow M R rows j row
    unfolding Means
    either-row {i} {k} e is =
        among-nodes (Either i k) e (λ s. rows_has rows (i - 1) s || rows_has rows (k - 1) s) is
        (λ s lo hi.
        rw (row-bit rows i s lo hi, row-bit rows k s lo hi)
        (let b = or_is (rows_has rows (i - 1) s) (rows_has rows (k - 1) s) in (b.1, b.0)))

    by_name : (exchanged : Bool) (p : PathLine) → ((i : ℕ) → i < variables_most → argument_of p i ≡ argument R j i)
        → PathReady M R next back rows (argument_of p) p.automaton → PathRow M R rows (argument_of p) p.automaton exchanged row
        → (s : ℕ) → 1 ≤ s → s ≤ nodes M
        → T (row s) ↔ PathFrom (kripke M) (automaton R p.automaton) (row_truths rows) (argument R j) (good exchanged (automaton R p.automaton)) s
    by_name exchanged p carries path is s lo hi =
        let x = p.automaton in
        let few = few-valued R path.ready.rules x path.from path.to in
        let named = (positioned-named lent R path.ready.rules x path.from path.to).variables in
        Iff.trans (is.truth s lo hi)
        (Iff.trans (Iff.symm (path-by-position lent R path.ready.rules x path.from path.to (kripke M) (row_truths rows) (argument_of p) exchanged s))
        (path-arguments (kripke M) (automaton R x) (row_truths rows) (good exchanged (automaton R x)) s (argument_of p) (argument R j)
        (λ i l. carries i (omega (arith, l, few, named)))))

    pub path-row : (exchanged : Bool) (p : PathLine) → decoded R j ≡ Some (path_line exchanged p) → PathRow M R rows (argument_of p) p.automaton exchanged row
        → LineRow M R rows j row
    unfolding Means turned
    path-row false p e is = record {
      truth = λ s lo hi. rw (line-meant R j (SomePath p) e) (by_name false p (line-carries R j (SomePath p) e) (path-ready false p e) is s lo hi);
      clear = is.clear;
    }
    path-row true p e is = record {
      truth = λ s lo hi. rw (line-meant R j (SomePathNot p) e) (by_name true p (line-carries R j (SomePathNot p) e) (path-ready true p e) is s lo hi);
      clear = is.clear;
    }
