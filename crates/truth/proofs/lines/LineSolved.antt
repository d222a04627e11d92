-- From the solver's tables to definition 5: at the initial position are exactly the nodes from which the line's path exists, and a walk
-- through the tables that comes back shows such a path.
use mathlib.Core.Path.{◌≡◌, refl, sym, subst}
use mathlib.Core.Logic.Iff
use mathlib.Core.Logic.{◌↔◌}
use Prim.Native.Nat.{ℕ, suc, ◌+◌, ◌-◌, ◌≤◌, ◌<◌}
use native.Mathlib.Omega.{arith}
use native.Mathlib.Decide.{le_ind}
use mathlib.Core.List.{List}
use mathlib.Core.Bool.{Bool}
use lib.Dec.{T, leb, le→leb}
use Rattle.sheets.specs.Words.{within}
use Rattle.sheets.specs.Machine.{nodes, kripke, machine_refusal}
use Rattle.sheets.specs.Structures.{Automaton}
use Rattle.sheets.specs.Sound.{MoveUnder, Sound}
use Rattle.sheets.proofs.Tests.{and_right, and_both, dec-test, passed}
use Rattle.sheets.proofs.Search.{within_in}
use Rattle.sheets.proofs.AcceptedMachine.{nodes-sized, edge_stays}
use Rattle.truth.specs.Sizes.{members_most, cell}
use Rattle.truth.specs.Truth.{Valuation, SomePath}
use Rattle.truth.specs.Labelling.{row_bit, row_truths}
use Rattle.truth.specs.inner.Rows.{rows_has}
use Rattle.truth.specs.inner.Pairs.{edge_in, PairStep, Least, Greatest}
use Rattle.truth.specs.inner.Trails.{Looped}
use Rattle.truth.specs.Lists.{AutomatonStep, Lasso}
use Rattle.truth.specs.inner.Product.{argument_at, good, Allowed, GoodRows}
use Rattle.truth.specs.inner.OneLine.{Successors, node_set}
use Rattle.truth.proofs.tables.RowBits.{row-bit}
use Rattle.truth.proofs.product.ValuationRows.{agrees-in}
use Rattle.truth.proofs.Valuations.{valued}
use Rattle.truth.proofs.EndlessPaths.{Arena, In}
use Rattle.truth.proofs.SolvedPairs.{arena, solved}
use Rattle.truth.proofs.LinePaths.{Beside, start-in, path-endless, separate}

-- a sound automaton, whose initial position is the first
module _ (M : List ℕ) (machine-ok : machine_refusal M ≡ 0) (A : Automaton) (t : ℕ) (sound : Sound A t) (first : A.initial ≡ 1)
    (rows : List ℕ) (arg : ℕ → ℕ) (exchanged : Bool) (allow next : List ℕ) (allowed : Allowed A t rows arg (node_set M) allow)
    (next_is : Successors M next) where
  abbrev B : Arena
  B = arena allow next (nodes M) t (good exchanged A)

  -- ---- nodes and edges

  node-small : (s : ℕ) → s ≤ nodes M → s ≤ members_most
  node-small s h = omega (arith, (nodes-sized M machine-ok).1)

  node-all : (s : ℕ) → 1 ≤ s → s ≤ nodes M → T (node_set M s)
  node-all s a b = and_both (leb s (nodes M)) (within 1 members_most s) (le→leb s (nodes M) b) (within_in 1 members_most s a (node-small s b))

  edges : (s u : ℕ) → 1 ≤ s → s ≤ nodes M → T (edge_in next s u) ↔ T ((kripke M).edge s u)
  edges s u a b = (
    λ e. and_right (within 1 members_most u) ((kripke M).edge s u) (rw (next_is s u a b) at e),
    λ e.
        let r = edge_stays M machine-ok s a b u e in
        rw (next_is s u a b) (and_both (within 1 members_most u) ((kripke M).edge s u) (within_in 1 members_most u r.0 (node-small u r.1)) e),
  )

  stays : (s u : ℕ) → 1 ≤ s → s ≤ nodes M → T (edge_in next s u) → (1 ≤ u) × (u ≤ nodes M)
  stays s u a b e = edge_stays M machine-ok s a b u ((edges s u a b).0 e)

  -- ---- valuations, and where the automaton goes under them

  value : (s : ℕ) → (w : ℕ) × Valuation (row_truths rows) A.variables arg s w
  value s = valued (row_truths rows) A.variables arg s (λ i l. dec-test (row_bit rows (arg i) s))

  goes-as : (s w : ℕ) → 1 ≤ s → s ≤ nodes M → Valuation (row_truths rows) A.variables arg s w → (p p' : ℕ) → p < t → p' < t
      → rows_has allow (cell p p') s ≡ A.goes (p + 1) w (p' + 1)
  unfolding Valuation
  goes-as s w a b v p p' l l' =
      allowed.goes p p' s w l l' v.0
      (agrees-in A.variables w (argument_at rows arg s) (λ i m. rw (← (row-bit rows (arg i) s a (node-small s b))) (v.1 i m))) (node-all s a b)

  -- ---- the tables are an arena beside the machine and the automaton

  beside : Beside (kripke M) A (row_truths rows) arg exchanged B
  beside = record {
    sound = sound;
    stays = λ s s' a b. edge_stays M machine-ok s a b s';
    edges = edges;
    value = λ s a b. value s;
    allows = λ q s q' w h to v.
        let e : q - 1 + 1 ≡ q = omega (arith, h.state-from) in
        let f : q' - 1 + 1 ≡ q' = omega arith in
        let g = goes-as s w h.node-from h.node-to v (q - 1) (q' - 1) (omega (arith, h.state-from, h.state-to)) (omega arith) in
        rw (rw (e, f) at g) Iff.rfl;
    goods = λ q. refl;
  }

  module _ (s : ℕ) (a : 1 ≤ s) (b : s ≤ nodes M) where
    -- ---- what the solver leaves at the initial position

    module _ (goods xs ys times : List ℕ) (good_rows : GoodRows A t (node_set M) exchanged goods) (great : Greatest allow next t goods xs)
        (least : Least allow next t xs ys times) where
      good-is : (q s : ℕ) → In B q s → T (rows_has goods (q - 1) s) ↔ T (good exchanged A q)
      good-is q s h =
          let l : q - 1 < t = omega (arith, h.state-from, h.state-to) in
          let e : q - 1 + 1 ≡ q = omega (arith, h.state-from) in
          rw (good_rows.row (q - 1) s l, passed (node_set M s) (node-all s h.node-from h.node-to), e) Iff.rfl

      pub line-solved : T (rows_has ys 0 s) ↔ SomePath (kripke M) A (row_truths rows) arg (good exchanged A) s
      line-solved =
          let e : A.initial - 1 ≡ 0 = omega (arith, first) in
          subst (λ (p : ℕ). T (rows_has ys p s) ↔ SomePath (kripke M) A (row_truths rows) arg (good exchanged A) s) e
          (Iff.trans
          (solved allow next (nodes M) t (good exchanged A) stays goods xs good-is great ys times least (MoveUnder A t) (separate beside) A.initial s
          (start-in beside s a b)) (path-endless beside s a b))

    -- ---- a walk that comes back shows a path

    module _ (node position : ℕ → ℕ) (len back : ℕ) (goods xs : List ℕ) (good_rows : GoodRows A t (node_set M) exchanged goods)
        (fewer : (p s : ℕ) → p < t → T (rows_has xs p s) → T (rows_has goods p s))
        (walk : Looped allow next t (nodes M) xs s node position len back) where
      walk-node : (i : ℕ) → 1 ≤ i → i ≤ len → (1 ≤ node i) × (node i ≤ nodes M)
      walk-node =
          le_ind (λ i. i ≤ len → (1 ≤ node i) × (node i ≤ nodes M)) (λ h. rw walk.starts (a, b))
          (λ i l in-range h. let k = in-range (omega arith) in stays (node i) (node (suc i)) k.0 k.1 (walk.steps i l h).moves)

      -- a step of the walk is a step of the automaton and an edge
      takes : (i k : ℕ) → 1 ≤ i → i ≤ len → PairStep allow next t (position i) (node i) (position k) (node k)
          → AutomatonStep A (row_truths rows) arg (node i) (position i + 1) (position k + 1)
      takes i k l h step =
          let r = walk-node i l h in
          let v = value (node i) in
          record {
            valuation = v.0;
            values = v.1;
            goes = rw (goes-as (node i) v.0 r.0 r.1 v.1 (position i) (position k) (walk.below i l h) step.below) at step.allowed;
          }

      edge-along : (i k : ℕ) → 1 ≤ i → i ≤ len → PairStep allow next t (position i) (node i) (position k) (node k) → T ((kripke M).edge (node i) (node k))
      edge-along i k l h step = let r = walk-node i l h in (edges (node i) (node k) r.0 r.1).0 step.moves

      pub lasso : Lasso (kripke M) A (row_truths rows) arg (good exchanged A) s node (λ i. position i + 1) len back
      lasso = record {
        back_from = walk.back_from;
        back_to = walk.back_to;
        starts = walk.starts;
        begins = rw walk.begins (sym first);
        moves = λ i l h. edge-along i (suc i) l (omega arith) (walk.steps i l h);
        steps = λ i l h. takes i (suc i) l (omega arith) (walk.steps i l h);
        moves-back = let f = walk.back_from in let g = walk.back_to in edge-along len back (omega arith) (omega arith) walk.steps_back;
        steps_back = let f = walk.back_from in let g = walk.back_to in takes len back (omega arith) (omega arith) walk.steps_back;
        recurs = λ i l h.
            let f = walk.back_from in
            let k = walk.below i (omega arith) h in
            let g = fewer (position i) (node i) k (walk.lasting i l h) in
            and_right (node_set M (node i)) (good exchanged A (position i + 1)) (rw (good_rows.row (position i) (node i) k) at g);
        once = λ i k l m h e f. walk.once i k l m h e (omega arith);
      }
