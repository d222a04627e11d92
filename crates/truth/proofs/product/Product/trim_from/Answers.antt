-- `trim_from` meets its contract: a row of what is gone is emptied, and what was owed a step to it is looked at.
use mathlib.Core.Path.{◌≡◌, sym, ◌∙◌}
use mathlib.Core.Logic.{◌↔◌}
use Prim.Native.Nat.{ℕ}
use native.Mathlib.Omega.{arith}
use mathlib.Core.Bool.{true, false, not, true≢false}
use lib.Dec.{T}
use Rattle.sheets.specs.Words.{each}
use Rattle.truth.specs.Sizes.{members_most}
use Rattle.truth.specs.inner.Rows.{row_has, rows_has}
use Rattle.truth.specs.inner.Pairs.{Before}
use Rattle.truth.proofs.rows.RowLaws.{held_in, none_passes}
use Rattle.truth.proofs.tables.TableLaws.{emptied}
use Rattle.truth.proofs.trimming.TrimGone.{trimmed-idle, trimmed-row}
use Rattle.truth.proofs.product.Product.trim_from.Goals as goal

pub returns-then-is_empty : goal.returns-then-is_empty
returns-then-is_empty c =
    let a = c.args in
    let from = c.load-from.ensures in
    let none : each members_most (λ s. not (rows_has a.pairs.now.gone a.p2 s)) ≡ true = rw (from.0, from.1) at (sym c.is_empty.ensures ∙ c.if-is_empty.true) in
    record { trimmed = trimmed-idle; none = λ y. none_passes (rows_has a.pairs.now.gone a.p2) (held_in _ _) none }

pub together-pre-requires : goal.together-pre-requires
together-pre-requires c = λ u t. omega (arith, (held_in _ _ u t).1)

pub returns : goal.returns
returns c =
    let a = c.args in
    let from = c.load-from.ensures in
    let on = c.load.ensures in
    let pre = c.together-pre in
    let ahead : (s : ℕ) → T (row_has pre.result s) ↔ Before a.self.now.back.now (rows_has a.pairs.now.gone a.p2) s = rw (from.0, from.1) at pre.ensures in
    let some : each members_most (λ s. not (rows_has a.pairs.now.gone a.p2 s)) ≡ false =
    rw (from.0, from.1) at (sym c.is_empty.ensures ∙ c.if-is_empty.false) in
    let m = c.trim_into.ensures in
    let cleared = emptied a.pairs.now.gone _ a.p2 _ _ (omega (arith, a.self.now.moves.now.few)) c.store.ensures c.empty.ensures in record {
      trimmed = trimmed-row a.self.now.back.now a.pairs.now.gone a.p2 (row_has pre.result) cleared ahead m.moved a.self.now.moves.now.into a.self.now.moves.now.enters (rw (on.0, on.1) at m.owing) c.requires some;
      none = λ y. absurd (true≢false y);
    }
