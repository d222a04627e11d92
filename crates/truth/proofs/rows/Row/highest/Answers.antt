-- `highest` meets its contract: the highest set bit of the upper word that has one.
use native.Mathlib.Omega.{arith}
use borrow.Author.Rules.{rules}
use Rattle.truth.proofs.rows.RowEnds.{last-low, last-high}
use Rattle.truth.proofs.rows.RowMembers.{no_node}
use Rattle.truth.proofs.rows.Row.highest.Goals as goal

pub returns-then-self-ne0 : goal.returns-then-self-ne0
returns-then-self-ne0 c = last-high _ (omega arith) (search rules)

pub returns-then-self-ne0-2 : goal.returns-then-self-ne0-2
returns-then-self-ne0-2 c = last-low _ (omega arith) (omega arith) (search rules)

pub returns : goal.returns
returns c = no_node _ (omega arith) (omega arith)
