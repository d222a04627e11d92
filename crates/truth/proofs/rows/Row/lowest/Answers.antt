-- `lowest` meets its contract: the lowest set bit of the lower word that has one.
use native.Mathlib.Omega.{arith}
use borrow.Author.Rules.{rules}
use Rattle.truth.proofs.rows.RowEnds.{first-low, first-high}
use Rattle.truth.proofs.rows.RowMembers.{no_node}
use Rattle.truth.proofs.rows.Row.lowest.Goals as goal

pub returns-then-self-ne0 : goal.returns-then-self-ne0
returns-then-self-ne0 c = first-low _ (omega arith) (search rules)

pub returns-then-self-ne0-2 : goal.returns-then-self-ne0-2
returns-then-self-ne0-2 c = first-high _ (omega arith) (omega arith) (search rules)

pub returns : goal.returns
returns c = no_node _ (omega arith) (omega arith)
