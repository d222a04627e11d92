-- `node_row` meets its contract: every node passes.
use mathlib.Core.Bool.{true, and-true}
use Rattle.sheets.specs.Words.{within}
use Rattle.truth.specs.Sizes.{members_most}
use borrow.Author.Rules.{rules}
use Rattle.truth.proofs.structure.node_row.Goals as goal

pub returns : goal.returns
returns c s = rw (← and-true (within 1 members_most s)) (c.nodes_where.ensures (λ s. true) (λ s r lo hi e. search rules) s)
