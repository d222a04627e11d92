-- `trim_first_row` meets its contract: what is taken out has nothing ahead.
use mathlib.Core.Path.{◌≡◌}
use Prim.Native.Nat.{ℕ}
use mathlib.Core.Bool.{not, ◌&&◌}
use Rattle.truth.specs.Sizes.{cell}
use Rattle.truth.specs.inner.Rows.{row_has, rows_has}
use Rattle.truth.proofs.tables.LinkedSets.{among_below, below-among}
use Rattle.truth.proofs.trimming.TrimSteps.{Through}
use Rattle.truth.proofs.trimming.TrimStart.{started-next}
use Rattle.truth.proofs.product.Product.trim_first_row.Goals as goal

pub returns : goal.returns
returns c =
    let a = c.args in
    let on = c.goes_on-on in
    let set = c.load.ensures in
    let row = c.load-row.ensures in
    let d = c.difference-lost in
    let through = Through a.self.now.moves.now.allow a.table.now a.p in
    let onward = rw (set.0, set.1) at on.ensures in
    let lost : (s : ℕ) → row_has d.result s ≡ (rows_has a.pairs.now.kept a.p s && not (row_has on.result s)) = λ s. rw (row.0, row.1) at (d.ensures s) in
    λ first is g.
    started-next a.table.now (row_has on.result) is
    (λ s. (
      λ t. among_below cell a.self.now.moves.now.leaves a.p (through s) ((onward s).0 t),
      λ r. (onward s).1 (below-among cell a.self.now.moves.now.leaves a.p (through s) c.requires (λ q x. (s, x.0)) r),
    )) lost c.take_out.ensures g
