-- `meets` meets its contract: the row of the first machine meets its set, or that of the second does.
use mathlib.Core.Path.{refl}
use Rattle.truth.specs.inner.Rows.{row_has}
use Rattle.truth.proofs.tables.TableLaws.{loaded}
use Rattle.comparison.proofs.BlockTables.{meets-first, meets-second}
use Rattle.comparison.proofs.blocks.Partition.meets.Goals as goal

pub returns-then-meets : goal.returns-then-meets
returns-then-meets c M₁ M₂ =
    let row = c.load-first in
    let a = c.args in
    meets-first M₁ M₂ a.self.now.rows.first a.self.now.rows.second a.c (row_has row.result) (row_has row.result) (row_has a.x.first) (row_has a.x.second) c.meets.result
    (λ s. loaded a.self.now.rows.first row.result a.c a.c s row.ensures refl) c.meets.ensures c.if-meets.true

pub returns : goal.returns
returns c M₁ M₂ =
    let row₂ = c.load-second in
    let row₁ = c.load-first in
    let a = c.args in
    meets-second M₁ M₂ a.self.now.rows.first a.self.now.rows.second a.c (row_has row₁.result) (row_has row₂.result) (row_has a.x.first) (row_has a.x.second) c.meets.result
    (λ s. loaded a.self.now.rows.first row₁.result a.c a.c s row₁.ensures refl) c.meets.ensures c.if-meets.false c.meets-2.result
    (λ s. loaded a.self.now.rows.second row₂.result a.c a.c s row₂.ensures refl) c.meets-2.ensures
