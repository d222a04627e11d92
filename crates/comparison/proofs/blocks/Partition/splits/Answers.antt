-- `splits` meets its contract: a node in the sets, and one in their complements.
use Rattle.truth.specs.inner.Rows.{row_has}
use Rattle.comparison.proofs.BlockTables.{tells_none, tells_both}
use Rattle.comparison.proofs.blocks.Partition.splits.Goals as goal

pub returns-then-not-meets : goal.returns-then-not-meets
returns-then-not-meets c M₁ M₂ =
    let a = c.args in
    let r = c.meets in
    tells_none M₁ M₂ a.self.now.rows.first a.self.now.rows.second a.c (row_has a.x.first) (row_has a.x.second) r.result (r.ensures M₁ M₂) c.if-not-meets.true

pub returns : goal.returns
returns c M₁ M₂ =
    let r = c.meets in
    let a = c.args in
    tells_both M₁ M₂ a.self.now.rows.first a.self.now.rows.second a.c (row_has a.x.first) (row_has a.x.second) r.result (r.ensures M₁ M₂) c.if-not-meets.false
    _ _ c.map.ensures.first c.map.ensures.second c.meets-2.result (c.meets-2.ensures M₁ M₂)
