-- `at_most_one` meets its contract: nothing is left when one is taken.
use mathlib.Core.Path.{sym, ◌∙◌}
use Rattle.truth.specs.inner.Rows.{row_has}
use Rattle.truth.proofs.rows.RowLaws.{held_in}
use Rattle.comparison.proofs.Surveys.{one_only}
use Rattle.comparison.proofs.signatures.at_most_one.Goals as goal

pub returns-in-Some : goal.returns-in-Some
returns-in-Some c =
    let w = c.without in
    record {
      node = c.in-Some.s;
      only = λ e. one_only (row_has c.args.row) (row_has w.result) _ (held_in w.result.low w.result.high) w.ensures (sym c.is_empty.ensures ∙ e);
    }
