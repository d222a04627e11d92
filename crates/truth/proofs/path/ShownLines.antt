-- The list that is made for a path line: the row of the tables that solve it says whether there is a path; where there is, the tables
-- can be walked, and the walk, its positions named by their states, shows it.
use mathlib.Core.Path.{◌≡◌, refl, sym, ap, subst, ◌∙◌}
use mathlib.Core.Logic.{◌↔◌}
use Prim.Native.Nat.{ℕ, suc, ◌+◌, ◌-◌, ◌≤◌, ◌<◌}
use native.Mathlib.Nat.{mul-le-mul}
use native.Mathlib.Omega.{arith}
use mathlib.Core.List.{List, ◌++◌}
use mathlib.Core.Bool.{Bool, true, false}
use lib.ListN.{length, take, drop, get_or, get_or-append}
use lib.Seq.{length-take-le, get_or-take}
use lib.Dec.{T}
use Rattle.std.specs.Prelude.{Some, None, Ok}
use Rattle.sheets.specs.Format.{nodes_most}
use Rattle.sheets.specs.Machine.{nodes, kripke}
use Rattle.sheets.specs.Rules.{lent, automaton}
use Rattle.sheets.specs.Positioned.{state_count, state_of, positioned}
use Rattle.sheets.proofs.AcceptedMachine.{nodes-sized}
use Rattle.sheets.proofs.PositionedStates.{positioned-first, positioned-named}
use Rattle.truth.specs.Sizes.{positions_most, pairs_most}
use Rattle.truth.specs.inner.Rows.{row_has, IsRow}
use Rattle.truth.specs.declared.rows.Row.{Row}
use Rattle.truth.specs.Labelling.{row_truths}
use Rattle.truth.specs.inner.Product.{good}
use Rattle.truth.specs.inner.Pairs.{Timed}
use Rattle.truth.specs.Lists.{Lasso}
use Rattle.truth.specs.inner.OneLine.{Ready, PathReady, Holds, SolvedLine}
use Rattle.truth.specs.inner.Trails.{Looped, Traceable, placed}
use Rattle.truth.specs.inner.Shows.{Askable, ShowsLine}
use Rattle.truth.proofs.NamedPaths.{good-named, lasso-named}
use Rattle.truth.proofs.lines.PathRows.{path-sound, states-few, allow-up, lasting-up, some-state, path-row-of}
use Rattle.truth.proofs.lines.LineSolved.{lasso}
use Rattle.truth.proofs.path.SameLists.{lasso-same}

-- a line that may be asked about can be solved with the tables of the machine
pub path-ready : {M R next back rows : List ℕ} {arg : ℕ → ℕ} {x s : ℕ} → Askable M R rows arg x s → Ready M R next back → PathReady M R next back rows arg x
path-ready asked ready = record { ready = ready; from = asked.from; to = asked.to; arguments = asked.arguments }

-- the solved tables of a line that may be asked about, with those of the machine; row is that at the initial position, and b says whether it
-- has the node
module _ {M R next back rows : List ℕ} {arg : ℕ → ℕ} {x s : ℕ} (asked : Askable M R rows arg x s) (ready : Ready M R next back) {exchanged : Bool} {allow xs ys times : List ℕ}
    (solved : SolvedLine M (positioned R x) (state_count R x) next rows arg exchanged allow xs ys times) {row : Row} (loaded : IsRow ys 0 row) {b : Bool} (eb : b ≡ row_has row s) where
  path : PathReady M R next back rows arg x
  path = path-ready asked ready

  has-holds : T b ↔ Holds M R rows arg x exchanged s
  has-holds = rw eb ((path-row-of path solved loaded.0 loaded.1).truth s asked.low asked.high)

  pub none-shown : b ≡ false → (list names : List ℕ) → ShowsLine M R rows arg x exchanged s list names (Ok None)
  unfolding ShowsLine
  none-shown n list names h = subst T n (has-holds.1 h)

  -- it has the node; with the number of positions and that of nodes as the code has them
  module _ (some : b ≡ true) {t n : ℕ} (counts : t ≡ state_count R x) (counted : n ≡ nodes M) where
    had : T b
    had = subst T (sym some) tt

    few : t ≤ positions_most
    few = rw counts (states-few path)

    few-nodes : n ≤ nodes_most
    few-nodes = rw counted (nodes-sized M asked.machine).1

    pub traceable : Timed times → Traceable allow next t n xs ys times s
    traceable timed = record {
      few = few;
      nodes = few-nodes;
      some = rw counts (some-state path);
      allow-up = rw counted (allow-up M (positioned R x) (state_count R x) next rows arg exchanged allow xs ys times solved);
      xs-up = rw (counted, counts) (lasting-up M (positioned R x) (state_count R x) next rows arg exchanged allow xs ys times solved);
      lasts = rw counts solved.greatest.lasts;
      least = rw counts solved.least;
      timed = timed;
      found = rw (eb, loaded.0, loaded.1) at had;
    }

    module _ (list positions : List ℕ) {len turn : ℕ} (walk : Looped allow next t n xs s (placed list) (placed positions) len turn) where
      -- the list has room, and its positions are few enough
      pub list-fits : (len ≤ pairs_most) × ((i : ℕ) → i < len → get_or positions i 0 < positions_most)
      list-fits = (
        omega (arith, mul-le-mul few-nodes few, walk.fits),
        λ i l. let e : suc i - 1 ≡ i = omega arith in let b = rw e at (walk.below (suc i) (omega arith) l) in omega (arith, few),
      )

      -- by position
      positions-shown : Lasso (kripke M) (positioned R x) (row_truths rows) arg (good exchanged (positioned R x)) s (placed list) (λ i. placed positions i + 1) len turn
      positions-shown =
          lasso M asked.machine (positioned R x) (state_count R x) (path-sound path) (positioned-first R x) rows arg exchanged allow next
          solved.allowed ready.successors s asked.low asked.high (placed list) (placed positions) len turn solved.goods xs solved.good_rows solved.greatest.fewer
          (rw (counted, counts) at walk)

      pub shows-line : (numbers names : List ℕ) → ((k : ℕ) → k < state_count R x → get_or numbers k 0 ≡ state_of R x (k + 1))
          → ((i : ℕ) → i < len → get_or names i 0 ≡ get_or numbers (get_or positions i 0) 0) → ShowsLine M R rows arg x exchanged s list names (Ok (Some (record { length = len; back = turn })))
      unfolding ShowsLine
      shows-line numbers names numbers_is names_is = (
        has-holds.0 had,
        lasso-same (kripke M) (automaton R x) arg (good exchanged (automaton R x)) s len turn (row_truths rows) (placed list)
            (λ i. state_of R x (placed positions i + 1)) (placed list) (placed names) (λ i l h. refl)
            (λ i l h. names_is (i - 1) (omega arith) ∙ numbers_is (placed positions i) (omega (arith, below i l h, counts)))
            (lasso-named (positioned-named lent R asked.rules x path.from path.to) (kripke M) (row_truths rows) arg
            (good exchanged (automaton R x)) (good exchanged (positioned R x)) (good-named lent R asked.rules x path.from path.to exchanged) s
            (placed list) (λ i. placed positions i + 1) len turn (λ i l h. (omega arith, omega (arith, below i l h, counts))) positions-shown),
        rw (← counted, ← counts) walk.fits,
      )
        where
          below : (i : ℕ) → 1 ≤ i → i ≤ len → placed positions i < t
          below = walk.below

      -- the positions stand at the head of a list with room for all pairs
      module _ (long : length positions ≡ pairs_most) where
        room : len ≤ length positions
        room = omega (arith, list-fits.0)

        taken-length : length (take len positions) ≡ len
        taken-length = length-take-le len positions room

        -- what is taken of them has room, and is as long as the path
        pub taken-fits : (len ≤ length positions) × ((length (take len positions) ≡ len) × ((i : ℕ) → i < length (take len positions) → get_or (take len positions) i 0 < positions_most))
        taken-fits = (
          room,
          (
            taken-length,
            λ i l. let h : i < len = omega (arith, taken-length) in rw (get_or-take len positions i 0 h) (list-fits.1 i h),
          ),
        )

        -- the first positions are named in their places
        pub shows-named : (numbers named : List ℕ) → length named ≡ length (take len positions)
            → ((i : ℕ) → i < length (take len positions) → get_or named i 0 ≡ get_or numbers (get_or (take len positions) i 0) 0)
            → ((k : ℕ) → k < state_count R x → get_or numbers k 0 ≡ state_of R x (k + 1))
            → ShowsLine M R rows arg x exchanged s list (named ++ drop len positions) (Ok (Some (record { length = len; back = turn })))
        shows-named numbers named size names numbers_are =
            shows-line numbers (named ++ drop len positions) numbers_are
            (λ i l.
            let h : i < length (take len positions) = omega (arith, taken-length) in
            get_or-append named (drop len positions) 0 i (omega (arith, size, taken-length)) ∙ names i h ∙ ap (λ (p : ℕ). get_or numbers p 0) (get_or-take len positions i 0 l))
