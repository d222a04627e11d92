-- `grow_one` meets its contract: the row's nodes that are not met are added, or there are none.
use mathlib.Core.Path.{◌≡◌, sym, ◌∙◌}
use mathlib.Core.Bool.{not, ◌&&◌}
use mathlib.Core.List.{List}
use Prim.Native.Nat.{ℕ, ◌+◌, ◌*◌, ◌<◌}
use native.Mathlib.Omega.{arith}
use lib.Dec.{eqb}
use lib.ListN.{length}
use Rattle.truth.specs.Sizes.{row_words}
use Rattle.truth.specs.inner.Rows.{row_has, rows_has}
use Rattle.truth.specs.inner.Growing.{TimePut, Spread, enters}
use Rattle.truth.proofs.tables.TableLaws.{stored-length, stored_more}
use Rattle.truth.proofs.growth.RowAdditions.{spread-one, spread-empty}
use Rattle.truth.proofs.product.Product.grow_one.Goals as goal
use Rattle.truth.proofs.product.Product.grow_one.Goals.{After-difference-extra, After-store-2}

-- the nodes at p that step to p2 and are not met
extra : (c : After-difference-extra) (s : ℕ) → let a = c.args in row_has c.difference-extra.result s ≡ (enters a.self.now.moves.now.allow a.p2 (row_has a.prev) a.p s && not (rows_has a.pairs.now.reached a.p s))
extra c s =
    let may = c.load.ensures in
    let here = c.load-here.ensures in
    rw (c.intersection.ensures s, may.0, may.1, here.0, here.1) at (c.difference-extra.ensures s)

-- what is added, and what the times are then
added : (c : After-store-2) (times : List ℕ) → let a = c.args in TimePut (row_has c.difference-extra.result) a.p a.pairs.now.time a.times.now times
    → Spread (λ q s. eqb q a.p && enters a.self.now.moves.now.allow a.p2 (row_has a.prev) a.p s) a.pairs.now.time a.pairs.now.reached a.pairs.now.fresh a.times.now c.store.new.rows c.store-2.new.rows times
added c times put =
    let a = c.args in
    let here = c.load-here.ensures in
    let new = c.load-fresh.ensures in
    let may = c.load.ensures in
    let long : row_words * a.p + 1 < length a.pairs.now.reached = omega arith in
    let long' : row_words * a.p + 1 < length a.pairs.now.fresh = omega arith in
    let e = c.store.ensures in
    let f = c.store-2.ensures in
    spread-one (enters a.self.now.moves.now.allow a.p2 (row_has a.prev) a.p) _ _ _ _ _ _ _ _ _
    (λ s. rw (c.intersection.ensures s, may.0, may.1, here.0, here.1) at (c.difference-extra.ensures s))
    (rw e (stored-length a.pairs.now.reached a.p _ _ long))
    (rw f (stored-length a.pairs.now.fresh a.p _ _ long'))
    (rw e (stored_more a.pairs.now.reached a.p _ _ long (row_has c.difference-extra.result) (λ s. rw (here.0, here.1) at (c.union.ensures s))))
    (rw f (stored_more a.pairs.now.fresh a.p _ _ long' (row_has c.difference-extra.result) (λ s. rw (new.0, new.1) at (c.union-2.ensures s))))
    put

pub returns-then-is_empty-clause-spread : goal.returns-then-is_empty-clause-spread
returns-then-is_empty-clause-spread c =
    let a = c.args in
    spread-empty (enters a.self.now.moves.now.allow a.p2 (row_has a.prev) a.p) _ _ _ _ _ _ _ (extra (goal.at.returns-then-is_empty-clause-spread c).After-difference-extra)
    (sym c.if-is_empty.true ∙ c.is_empty.ensures)

pub returns-clause-spread : goal.returns-clause-spread
returns-clause-spread c = added (goal.at.returns-clause-spread c).After-store-2 _ c.put_time.ensures
