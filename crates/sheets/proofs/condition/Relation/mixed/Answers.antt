-- `mixed` meets its contract: its closure answers for each position.
use Rattle.std.proofs.Common.{rules}
use borrow.Author.Tests.{tests}
use Rattle.sheets.specs.inner.Positions.{some_below, mixing}
use Rattle.sheets.proofs.EachRecord.{any_position}
use Rattle.sheets.proofs.condition.Relation.mixed.Goals as goal

pub returns : goal.returns
returns c = any_position _ (λ p. some_below c.args.self.now.count (mixing c.args.set.bits c.args.self.now.rows p)) c.any.ensures.ran (λ x b q k. search (rules, tests))
