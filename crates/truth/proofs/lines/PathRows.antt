-- The row of a path line from the tables that the code makes: the good pairs trimmed and grown, at the initial position.
use mathlib.Core.Path.{◌≡◌, subst, fun_ext}
use Prim.Native.Nat.{ℕ, ◌+◌, ◌≤◌, ◌<◌}
use native.Mathlib.Omega.{arith}
use mathlib.Core.List.{List}
use mathlib.Core.Bool.{Bool, false}
use lib.ListN.{get_or}
use lib.Dec.{T, not_T, leb, leb→le}
use Rattle.sheets.specs.Words.{within}
use Rattle.sheets.specs.Structures.{Automaton}
use Rattle.sheets.specs.Machine.{nodes}
use Rattle.sheets.specs.Rules.{lent}
use Rattle.sheets.specs.Sound.{Sound}
use Rattle.sheets.specs.Positioned.{state_count, state_of, positioned}
use Rattle.sheets.specs.inner.Tabled.{Tabled}
use Rattle.sheets.specs.declared.position.ByPosition.{ByPosition}
use Rattle.sheets.proofs.Tests.{and_left, failed}
use Rattle.sheets.proofs.PositionedStates.{positioned-sound, positioned-first, few-positions, few-valued}
use Rattle.truth.specs.Sizes.{positions_most, members_most, table_rows}
use Rattle.truth.specs.inner.Rows.{held, rows_has}
use Rattle.truth.specs.inner.Pairs.{UpTo, Transposed, Least, Greatest}
use Rattle.truth.specs.inner.Product.{good, Allowed, GoodRows}
use Rattle.truth.specs.inner.OneLine.{Solvable, PathReady, PathRow, node_set, SolvedLine}
use Rattle.truth.proofs.structure.EdgesBack.{reaches-up}
use Rattle.truth.proofs.lines.LineSolved.{line-solved}

-- ---- what the code's tables come to

module _ (M : List ℕ) (A : Automaton) (t : ℕ) (next rows : List ℕ) (arg : ℕ → ℕ) (exchanged : Bool) where
  all-node : (s : ℕ) → T (node_set M s) → s ≤ nodes M
  all-node s a = leb→le s (nodes M) (and_left (leb s (nodes M)) (within 1 members_most s) a)

  goods-up : (goods : List ℕ) → GoodRows A t (node_set M) exchanged goods → UpTo (nodes M) t goods
  goods-up goods good_rows p s l g = all-node s (and_left (node_set M s) (good exchanged A (p + 1)) (rw (good_rows.row p s l) at g))

  -- with the number of positions and the nodes' row as the code has them
  pub solved-line : (back : List ℕ) → Transposed (nodes M) next back → (u : ℕ) → u ≡ t → (all : ℕ → Bool) → ((s : ℕ) → all s ≡ node_set M s)
      → (allow goods xs ys times : List ℕ) → Allowed A u rows arg all allow → GoodRows A u all exchanged goods
      → ((n : ℕ) → Transposed n next back → UpTo n u goods → Greatest allow next u goods xs)
      → ((n : ℕ) (next : List ℕ) → Transposed n next back → UpTo n table_rows allow → UpTo n u xs → Least allow next u xs ys times)
      → SolvedLine M A t next rows arg exchanged allow xs ys times
  solved-line back transposed u e all all_is allow goods xs ys times a g tr gr =
      let a' : Allowed A t rows arg (node_set M) allow = subst (λ (f : ℕ → Bool). Allowed A t rows arg f allow) (fun_ext all_is) (rw e at a) in
      let g' : GoodRows A t (node_set M) exchanged goods = subst (λ (f : ℕ → Bool). GoodRows A t f exchanged goods) (fun_ext all_is) (rw e at g) in
      let up = goods-up goods g' in
      let great = rw e at (tr (nodes M) transposed (rw (← e) at up)) in
      let kept : UpTo (nodes M) t xs = λ p s l a. up p s l (great.fewer p s l a) in
      let inside : UpTo (nodes M) table_rows allow = λ k s l a. all-node s (a'.inside k s a) in
      record {
        goods = goods;
        allowed = a';
        good_rows = g';
        greatest = great;
        least = rw e at (gr (nodes M) next transposed inside (rw (← e) at kept));
      }

  module _ (allow xs ys times : List ℕ) (solved : SolvedLine M A t next rows arg exchanged allow xs ys times) where
    pub allow-up : UpTo (nodes M) table_rows allow
    allow-up k s l a = all-node s (solved.allowed.inside k s a)

    pub lasting-up : UpTo (nodes M) t xs
    lasting-up p s l a = goods-up solved.goods solved.good_rows p s l (solved.greatest.fewer p s l a)

    -- no node past the last at the initial position
    clear_at : t ≤ positions_most → 0 < t → (s : ℕ) → nodes M < s → rows_has ys 0 s ≡ false
    clear_at few some s l =
        failed (rows_has ys 0 s) (not_T (rows_has ys 0 s) (λ y.
        let u = reaches-up allow next t (nodes M) xs few allow-up lasting-up some (solved.least.reaches 0 s some y) in
        omega arith))

-- ---- a path line of an accepted sheet

module _ {M R next back rows : List ℕ} {arg : ℕ → ℕ} {x : ℕ} (path : PathReady M R next back rows arg x) where
  pub path-sound : Sound (positioned R x) (state_count R x)
  path-sound = positioned-sound lent R path.ready.rules x path.from path.to

  pub states-few : state_count R x ≤ positions_most
  states-few = few-positions R path.ready.rules x path.from path.to

  -- there is a position
  pub some-state : 0 < state_count R x
  some-state = let b = path-sound.begins in omega (arith, b.0, b.1)

  -- its automaton as the code has it
  pub solvable : (a : ByPosition) → Tabled (positioned R x) (state_count R x) (state_of R x) a → Solvable M next back rows arg a
  solvable a is = record {
    predecessors = path.ready.predecessors;
    few = rw is.count states-few;
    valued = rw is.variables (few-valued R path.ready.rules x path.from path.to);
    arguments = rw is.variables path.arguments;
  }

  pub path-row-of : {exchanged : Bool} {allow xs ys times : List ℕ}
      → SolvedLine M (positioned R x) (state_count R x) next rows arg exchanged allow xs ys times
      → {low high : ℕ} → low ≡ get_or ys 0 0 → high ≡ get_or ys 1 0 → PathRow M R rows arg x exchanged (held low high)
  path-row-of {exchanged} {allow} {xs} {ys} {times} solved el eh = record {
    truth = λ s lo hi. rw (el, eh)
        (line-solved M path.ready.machine (positioned R x) (state_count R x) path-sound (positioned-first R x) rows arg exchanged allow next
        solved.allowed path.ready.successors s lo hi solved.goods xs ys times solved.good_rows solved.greatest solved.least);
    clear = λ s l. rw (el, eh) (clear_at M (positioned R x) (state_count R x) next rows arg exchanged allow xs ys times solved states-few some-state s l);
  }
