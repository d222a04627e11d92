-- `valuation_table` meets its contract. The invariant: the rows below w have the nodes of their valuations.
use borrow.Author.Rules.{rules}
use Prim.Native.Nat.{◌<◌}
use native.Mathlib.Omega.{arith}
use Rattle.truth.specs.Sizes.{high_at, set_words}
use Rattle.truth.proofs.product.ValuationRows.{valuations}
use Rattle.truth.proofs.tables.TableLaws.{zero_row, filled_none, filled_more, empty-after}
use Rattle.truth.proofs.product.Variables.valuation_table.Invariants.{Valued}
use Rattle.truth.proofs.product.Variables.valuation_table.Goals as goal

pub loop-w-init : goal.loop-w-init
loop-w-init c = (filled_none _ _ (search rules), λ i l s x. rw (zero_row set_words i s) at x)

pub store-requires : goal.store-requires
store-requires c =
    let v = valuations c.args.self.now.count c.args.self.now.few in
    omega (arith, v.0, v.1)

pub loop-w-preserved : goal.loop-w-preserved
loop-w-preserved c =
    let a = c.args.self.now in
    let at = c.loop-w in
    let v = valuations a.count a.few in
    let valued = Valued a.rows.now a.nodes a.lines a.count in
    let few : high_at at.w < set_words = omega (arith, v.0, v.1) in (
      filled_more valued at.out _ at.w _ _ at.invariant.0 few c.store.ensures c.valuation_row-row.ensures,
      empty-after at.out _ at.w _ _ (omega (arith, few, at.invariant.0.size)) c.store.ensures at.invariant.1,
    )
