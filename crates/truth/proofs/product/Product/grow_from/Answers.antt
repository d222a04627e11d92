-- `grow_from` meets its contract. The invariant: the pairs of the positions that were taken are added.
use mathlib.Core.Path.{◌≡◌, ◌∙◌}
use mathlib.Core.Logic.{◌↔◌}
use Prim.Native.Nat.{ℕ}
use native.Mathlib.Omega.{arith}
use lib.Dec.{T}
use Rattle.sheets.proofs.Tests.{and_left}
use Rattle.truth.specs.Sizes.{cell}
use Rattle.truth.specs.inner.Rows.{row_has, rows_has}
use Rattle.truth.specs.inner.Pairs.{Before, Cleared}
use Rattle.truth.specs.inner.Growing.{enters}
use Rattle.truth.proofs.rows.RowLaws.{held_in}
use Rattle.truth.proofs.rows.RowWalks.{less-in}
use Rattle.truth.proofs.tables.TableLaws.{emptied}
use Rattle.truth.proofs.growth.Spreading.{spread-more, spread_same, among_next, among-end}
use Rattle.truth.proofs.product.Product.grow_from.Goals as goal

pub together-prev-requires : goal.together-prev-requires
together-prev-requires c = λ u t. omega (arith, (held_in _ _ u t).1)

pub loop-u-preserved : goal.loop-u-preserved
loop-u-preserved c =
    let a = c.args in
    let l = c.loop-u in
    let taken = c.in-Some.ensures.steps in
    let t = taken.first.is_in in
    let from = row_has c.into_iter-u-iterator.result.left in
    let enter = enters a.self.now.moves.now.allow a.p2 (row_has c.together-prev.result) in
    let join = among_next from enter (row_has l.u-iterator.left) (row_has c.next.new.self.left) c.in-Some.u taken.less t (l.invariant.rest _ t) taken.first.from in
    record {
      rest = λ u x. l.invariant.rest u (less-in (row_has l.u-iterator.left) _ _ taken.less u x);
      spread = spread-more join l.invariant.spread (rw l.invariant.time at c.grow_one.ensures.spread);
      time = c.grow_one.ensures.time ∙ l.invariant.time;
    }

pub returns-clause-turn : goal.returns-clause-turn
returns-clause-turn c =
    let a = c.args in
    let product = a.self.now in
    let l = c.loop-u in
    let row = c.load.ensures in
    let from = c.load-from in
    let prev = c.together-prev in
    let before : (s : ℕ) → T (row_has prev.result s) ↔ Before product.back.now (rows_has a.pairs.now.fresh a.p2) s = rw (row.0, row.1) at prev.ensures in
    let enter = enters product.moves.now.allow a.p2 (row_has prev.result) in
    let same_row : c.into_iter-u-iterator.result.left ≡ from.result = cc in
    let same =
    among-end (row_has from.result) enter (row_has l.u-iterator.left) product.moves.now.count c.in-None.ensures.steps.0
    (λ u t. product.moves.now.enters.few a.p2 u (rw (from.ensures.0, from.ensures.1) at t))
    (λ p s h x. rw (from.ensures.0, from.ensures.1) (product.moves.now.enters.all a.p2 p s c.requires h (and_left (rows_has product.moves.now.allow (cell p a.p2) s) (row_has prev.result s) x))) in
    let clears : Cleared a.p2 a.pairs.now.fresh c.store.new.rows = emptied a.pairs.now.fresh _ a.p2 _ _ (omega (arith, product.moves.now.few)) c.store.ensures c.empty.ensures in
    record {
      prev = row_has prev.result;
      before = before;
      cleared = c.store.new.rows;
      clears = clears;
      spread = spread_same same (rw same_row at l.invariant.spread);
    }
