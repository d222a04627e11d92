-- `set_mask` meets its contract: nothing is drawn and nothing changes, or the row is stored and each position is a member of the other's set.
use borrow.Author.Rules.{rules}
use mathlib.Core.Path.{◌≡◌, sym, ◌∙◌}
use Prim.Native.Nat.{◌+◌, ◌-◌}
use native.Mathlib.Omega.{arith}
use Rattle.truth.specs.inner.Product.{MaskSet}
use Rattle.truth.proofs.product.AllowedTables.{mask-zero, mask-none, mask-more}
use Rattle.truth.proofs.product.Moves.set_mask.Goals as goal
use Rattle.truth.proofs.product.Moves.set_mask.Goals.{After-add-2}

pub returns-then-mask-eq0-clause-set : goal.returns-then-mask-eq0-clause-set
returns-then-mask-eq0-clause-set c =
    let a = c.args in
    let old = a.self.now in
    mask-zero a.table.now a.mask a.p a.k old.allow old.into old.onto c.if-mask-eq0.true c.requires.empty

pub returns-then-is_empty-clause-set : goal.returns-then-is_empty-clause-set
returns-then-is_empty-clause-set c =
    let a = c.args in
    let old = a.self.now in
    mask-none a.table.now a.mask a.p a.k (omega (arith, old.few)) (omega (arith, old.few)) old.allow (search rules) old.into old.onto _ _ c.mask_row-row.ensures
    c.requires.empty (sym c.if-is_empty.true ∙ c.is_empty.ensures)

-- what is changed
changed : (c : After-add-2) → let a = c.args in
    MaskSet a.table.now a.mask a.p a.k a.self.now.allow a.self.now.into a.self.now.onto c.store.new.rows c.add.new.rows c.add-2.new.rows
changed c =
    let a = c.args in
    let old = a.self.now in
    let to : a.k + 1 - 1 ≡ a.k = omega arith in
    let from : a.p + 1 - 1 ≡ a.p = omega arith in
    mask-more a.table.now a.mask a.p a.k (omega (arith, old.few)) (omega (arith, old.few)) old.allow (search rules) old.into old.onto _ _ c.mask_row-row.ensures
    _ _ _ c.store.ensures (rw to at c.add.ensures) (rw from at c.add-2.ensures)
