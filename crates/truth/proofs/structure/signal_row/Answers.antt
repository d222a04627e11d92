-- `signal_row` meets its contract: the test reads the signal.
use Rattle.sheets.specs.Machine.{signal_at}
use borrow.Author.Rules.{rules}
use Rattle.truth.proofs.structure.signal_row.Goals as goal

pub returns : goal.returns
returns c s = let a = c.args in rw (← c.nodes.ensures) (c.nodes_where.ensures (signal_at a.m.now a.i) (λ s r lo hi e. search rules) s)
