-- `one_sided` meets its contract: the first block where the tests of the start nodes differ, or none where they never do.
use mathlib.Core.Path.{◌≡◌}
use mathlib.Core.Bool.{true, false}
use borrow.Author.Rules.{rules}
use Prim.Native.Nat.{ℕ}
use Rattle.std.proofs.lemmas.Iterator.{first_from_Range}
use Rattle.truth.specs.inner.Rows.{row_has, rows_has}
use Rattle.comparison.proofs.StartBlocks.{side-searched, one-only}
use Rattle.comparison.proofs.compare.one_sided.Goals as goal

pub returns : goal.returns
returns c =
    let a = c.args in
    let p = a.partition.now in
    let one = c.start_row in
    let two = c.start_row-2 in
    let only = one-only a.m1.now a.m2.now (rows_has p.rows.first) (rows_has p.rows.second) c.requires.nodes1 c.requires.nodes2 (row_has one.result) (row_has two.result) one.ensures two.ensures in
    side-searched a.m1.now a.m2.now (rows_has p.rows.first) (rows_has p.rows.second) c.requires.nodes1 c.requires.nodes2 (row_has one.result) (row_has two.result) one.ensures two.ensures p.count c.find.result
    (first_from_Range _ _ _ _ (λ (i : ℕ). only i ≡ true) (λ (i : ℕ). only i ≡ false) c.find.ensures.ran (λ x q k. search rules) (λ x q k. search rules))
