-- `start_row` meets its contract: the test reads the start flag.
use lib.Dec.{eqb}
use Rattle.sheets.specs.Machine.{start_flag}
use borrow.Author.Rules.{rules}
use Rattle.truth.proofs.structure.start_row.Goals as goal

pub returns : goal.returns
returns c s = let a = c.args in rw (← c.nodes.ensures) (c.nodes_where.ensures (λ s. eqb (start_flag a.m.now s) 1) (λ s r lo hi e. search rules) s)
