-- `q10` meets its contract: its closure answers for each state as question 10 does.
use mathlib.Core.Path.{ap, ◌∙◌}
use Rattle.std.proofs.Common.{rules}
use borrow.Author.Tests.{tests}
use Rattle.sheets.specs.Words.{each}
use Rattle.sheets.specs.Rules.{q10, state_in_range}
use Rattle.sheets.proofs.EachRecord.{all_next}
use Rattle.sheets.proofs.rules.q10.Goals as goal

pub returns : goal.returns
unfolding q10
returns c =
    let p = state_in_range c.args.r.now in
    all_next c.states.result p c.all.ensures.ran (λ x b q k. search (rules, tests)) ∙ ap (λ n. each n p) c.states.ensures
