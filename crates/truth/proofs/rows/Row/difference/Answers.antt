-- `difference` meets its contract: what it takes out is a complement.
use mathlib.Core.Path.{◌∙◌}
use Rattle.truth.specs.inner.Rows.{row_has}
use Rattle.truth.proofs.rows.RowSets.{minus}
use Rattle.truth.proofs.rows.Row.difference.Goals as goal

pub returns : goal.returns
returns c s = c.intersection.ensures s ∙ minus _ _ s (row_has c.args.other s) _ (c.complement.ensures s)
