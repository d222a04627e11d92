-- `complement` meets its contract: each word's complement.
use borrow.Author.Rules.{rules}
use Rattle.truth.proofs.rows.RowLaws.{held-not}
use Rattle.truth.proofs.rows.Row.complement.Goals as goal

pub returns : goal.returns
returns c s = held-not _ _ s (search rules) (search rules)
