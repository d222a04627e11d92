-- `successor_row` meets its contract: the chain of node s begins at its first edge.
use Rattle.truth.specs.inner.Rows.{row_has}
use Rattle.truth.proofs.structure.TargetRows.{edge-chain}
use Rattle.truth.proofs.structure.Machine.successor_row.Goals as goal

pub returns : goal.returns
returns c =
    edge-chain c.args.self.now.words.now c.args.s _ (row_has c.chain_row.result) c.first_edge.ensures c.chain_row.ensures
