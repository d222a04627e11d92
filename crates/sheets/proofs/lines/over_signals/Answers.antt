-- `over_signals` meets its contract: its closure answers for each line as question 16 does.
use mathlib.Core.Path.{◌∙◌}
use Rattle.std.proofs.Common.{rules}
use borrow.Author.Tests.{tests}
use Rattle.sheets.specs.Rules.{lent, line, signal_most, over_signals}
use Rattle.sheets.proofs.EachRecord.{all_records}
use Rattle.sheets.proofs.lines.over_signals.Goals as goal

pub returns : goal.returns
unfolding over_signals
returns c =
    all_records _ (λ j. signal_most c.args.a (line lent c.args.r.now j)) c.all.ensures.ran c.new.ensures.start
    (c.new.ensures.end ∙ c.lines.ensures) c.new.ensures.exhausted (λ x b q k. search (rules, tests))
