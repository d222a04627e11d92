-- `grow_round` meets its contract. The invariant: turns led here, and where there was none the positions passed have nothing new.
use borrow.Author.Count.{below_more}
use mathlib.Core.Path.{◌≡◌, sym, ◌∙◌}
use mathlib.Core.Bool.{not}
use Rattle.sheets.specs.Words.{each}
use native.Mathlib.Omega.{arith}
use Rattle.truth.specs.Sizes.{members_most}
use Rattle.truth.specs.inner.Rows.{rows_has}
use Rattle.truth.specs.inner.Pairs.{NoRow}
use Rattle.truth.proofs.rows.RowLaws.{held_in, none_passes}
use Rattle.truth.proofs.growth.GrowthRounds.{turns-one, turns_more}
use Rattle.truth.proofs.product.Product.grow_round.Goals as goal
use Rattle.truth.proofs.product.Product.grow_round.Goals.{then-not-is_empty, else-not-is_empty}

pub overflow_add-pairs : goal.overflow_add-pairs
overflow_add-pairs c =
    let l = c.loop-k in
    let row = c.load.ensures in
    let tested : each members_most (λ s. not (rows_has l.pairs.fresh l.k s)) ≡ c.is_empty.result = rw (row.0, row.1) at (sym c.is_empty.ensures) in
    let some = tested ∙ c.if-not-is_empty.true in
    let turn = turns-one (omega arith) (omega arith) c.grow_from.ensures.turn some in
    omega (arith, turn.fewer, l.invariant.turns.fewer, c.requires, c.grow_from.ensures.time)

pub loop-k-preserved : goal.loop-k-preserved
loop-k-preserved c =
    let l = c.loop-k in
    let row = c.load.ensures in
    let tested : each members_most (λ s. not (rows_has l.pairs.fresh l.k s)) ≡ c.is_empty.result = rw (row.0, row.1) at (sym c.is_empty.ensures) in
    elim c.if-not-is_empty.branch [
      | then-not-is_empty w ↦
          let some = tested ∙ w.if-not-is_empty.true in
          let turn = turns-one (omega arith) (omega arith) w.grow_from.ensures.turn some in
          rw (w.pairs-is, w.times-is, w.grow_from.ensures.time) (record { turns = turns_more l.invariant.turns turn; done = λ e. absurd (omega (arith, l.invariant.turns.later)) })
      | else-not-is_empty w ↦
          let none = tested ∙ w.if-not-is_empty.false in
          rw (w.pairs-is, w.times-is)
          (record {
            turns = l.invariant.turns;
            done = λ e. below_more (NoRow l.pairs.fresh) l.k (l.invariant.done e) (none_passes (rows_has l.pairs.fresh l.k) (held_in _ _) none);
          })
    ]
