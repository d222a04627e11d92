-- `begin` meets its contract: the first lines are written, and block 0 has all the nodes.
use borrow.Author.Rules.{rules}
use native.Mathlib.Omega.{arith}
use Rattle.truth.proofs.Passed.{signals-sized}
use Rattle.comparison.proofs.FirstStage.{begun}
use Rattle.comparison.proofs.blocks.Partition.begin.Goals as goal

pub push_first-everywhere-requires-clause-few : goal.push_first-everywhere-requires-clause-few
push_first-everywhere-requires-clause-few c = omega (arith, signals-sized c.args.ms.now.first.words.now c.requires.accepted1, c.signals.ensures)

pub returns : goal.returns
returns c =
    let ms = c.args.ms.now in
    let p = c.args.self.now in
    let pre = c.requires in
    let wrote = c.push_first-everywhere.ensures in
    rw wrote.number
    (begun ms.first.words.now ms.second.words.now pre.accepted1 pre.accepted2 pre.bounded c.signals.result c.nodes.result c.nodes-2.result
    c.signals.ensures c.nodes.ensures c.nodes-2.ensures p.rows.first _ p.rows.second _ p.line c.push_first-everywhere.new.self _ _ _ _ _
    (search rules) (search rules) (search rules) c.store.ensures c.store-2.ensures c.node_row-first.ensures c.node_row-second.ensures wrote.count wrote.holds)
