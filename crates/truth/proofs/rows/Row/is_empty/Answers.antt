-- `is_empty` meets its contract: by the low word where it is not 0, and else by the high one.
use mathlib.Core.Path.{sym, ◌∙◌}
use native.Mathlib.Omega.{arith}
use borrow.Author.Tests.{ne_eqb}
use Rattle.truth.proofs.rows.RowLaws.{empty-low, empty-high}
use Rattle.truth.proofs.rows.Row.is_empty.Goals as goal

pub returns-then-self-eq0 : goal.returns-then-self-eq0
returns-then-self-eq0 c = empty-high _ _ (omega arith) (omega arith) (omega arith)

pub returns-else-self-eq0 : goal.returns-else-self-eq0
returns-else-self-eq0 c =
    ne_eqb c.args.self.low 0 c.if-self-eq0.false ∙ sym (empty-low _ _ (omega arith) (omega arith) c.if-self-eq0.false)
