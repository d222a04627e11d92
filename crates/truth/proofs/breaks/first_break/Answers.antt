-- `first_break` meets its contract: the numbers before the one that is found are tested, and pass.
use Rattle.std.proofs.Common.{arith, rules}
use borrow.Author.Tests.{tests}
use Rattle.std.proofs.lemmas.Iterator.{first_from_find}
use Rattle.sheets.proofs.EachRecord.{gives-fresh}
use Rattle.truth.specs.inner.Rows.{row_has}
use Rattle.truth.proofs.breaks.BreakNodes.{Outside, Passes, first-outside}
use Rattle.truth.proofs.breaks.first_break.Goals as goal

pub returns : goal.returns
returns c =
    let M = c.args.m.now in
    let p = row_has c.args.row in
    let range = c.new.ensures in
    first-outside M p c.find.result
    (first_from_find _ _ c.find.result (Outside M p) (Passes M p) c.find.ensures.ran
    (rw c.nodes.ensures at (gives-fresh c.nodes.result (omega arith) range.start range.end range.exhausted))
    (λ x q k. search (rules, tests)) (λ x q k. search (rules, tests)))
