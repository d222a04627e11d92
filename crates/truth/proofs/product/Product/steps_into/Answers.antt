-- `steps_into` meets its contract: its closure answers whether a step leads to a member's position.
use Rattle.std.proofs.Common.{rules}
use borrow.Author.Tests.{tests}
use Prim.Native.Nat.{◌-◌, ◌≤◌}
use Rattle.truth.specs.Sizes.{positions_most}
use Rattle.truth.specs.inner.Rows.{row_has}
use Rattle.truth.specs.inner.Trimmed.{Meeting}
use Rattle.truth.proofs.rows.RowLaws.{held_in}
use Rattle.truth.proofs.MemberSearches.{served, any_member}
use Rattle.truth.proofs.product.Product.steps_into.Goals as goal

pub any-requires-clause-callable : goal.any-requires-clause-callable
any-requires-clause-callable c =
    served (λ x q h. search (rules, tests))
    (λ x t.
    let few : x ≤ positions_most = c.requires.positions x (rw c.members.ensures at t) in
    let some : 1 ≤ x = (held_in _ _ x t).0 in
    search rules)

pub returns : goal.returns
returns c =
    let a = c.args in
    rw c.members.ensures at
    (any_member (λ u. Meeting a.self.now.moves.now.allow a.xs.now (row_has a.to) a.p a.s (u - 1)) _ _ _ c.any.result (λ x q k. search (rules, tests)) (λ x q k. search (rules, tests)) c.any.ensures.ran)
