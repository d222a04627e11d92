-- `splitter` meets its contract: of a block of one node no mark tells, and of another the nodes that are unlike the leader tell.
use borrow.Author.Rules.{rules}
use mathlib.Core.Path.{◌≡◌}
use Rattle.std.specs.Prelude.{None}
use Rattle.truth.specs.inner.Rows.{row_has}
use Rattle.truth.proofs.rows.RowLaws.{held_in}
use Rattle.comparison.proofs.Surveys.{mark-alone, mark-none, led-first, led-second, unlike-first, unlike-second}
use Rattle.comparison.proofs.signatures.splitter.Goals as goal

pub returns-then-alone : goal.returns-then-alone
returns-then-alone c m₁ m₂ d e₁ e₂ =
    mark-alone _ _ m₁ m₂ d (row_has c.args.rows.first) (row_has c.args.rows.second) e₁ e₂ _ _ (c.alone.ensures c.if-alone.true)

pub returns-in-Some-unlike : goal.returns-in-Some-unlike
returns-in-Some-unlike c m₁ m₂ d e₁ e₂ =
    let r = c.args.rows in
    unlike-first _ _ _ _ (row_has r.first) (row_has r.second) _ _ _ (led-first _ _ _ _ _ _ c.in-Some.lead c.in-Some.ensures) m₁ m₂ d e₁ e₂
    (λ s t. (held_in r.first.low r.first.high s t).0) (λ s t. (held_in r.second.low r.second.high s t).0) c.in-Some-unlike.e c.in-Some-unlike.ensures

pub returns-in-None-unlike : goal.returns-in-None-unlike
returns-in-None-unlike c m₁ m₂ d e₁ e₂ =
    let r = c.args.rows in
    let u = c.unlike-in-None-unlike in
    unlike-second _ _ _ _ (row_has r.first) (row_has r.second) _ _ _ (led-first _ _ _ _ _ _ c.in-Some.lead c.in-Some.ensures) m₁ m₂ d e₁ e₂
    (λ s t. (held_in r.first.low r.first.high s t).0) (λ s t. (held_in r.second.low r.second.high s t).0) u.result c.in-None-unlike.ensures u.ensures

pub returns-in_err-lead-in-None : goal.returns-in_err-lead-in-None
returns-in_err-lead-in-None c m₁ m₂ d e₁ e₂ =
    let none : c.from_residual.result ≡ None = search rules in
    rw none (mark-none _ _ m₁ m₂ d (row_has c.args.rows.first) (row_has c.args.rows.second) e₁ e₂ _ _ c.in-None.ensures c.in_err-lead-in-None.ensures)

pub returns-in_ok-lead-in-None : goal.returns-in_ok-lead-in-None
returns-in_ok-lead-in-None c m₁ m₂ d e₁ e₂ =
    let r = c.args.rows in
    let u = c.unlike-in-None in
    unlike-second _ _ _ _ (row_has r.first) (row_has r.second) _ _ _ (led-second _ _ _ _ _ _ c.in_ok-lead-in-None.lead c.in_ok-lead-in-None.ensures) m₁ m₂ d e₁ e₂
    (λ s t. (held_in r.first.low r.first.high s t).0) (λ s t. (held_in r.second.low r.second.high s t).0) u.result (λ s t. absurd (c.in-None.ensures s t)) u.ensures
