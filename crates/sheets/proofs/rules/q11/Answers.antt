-- `q11` meets its contract: its closure answers for each transition as question 11 does.
use mathlib.Core.Path.{ap, ◌∙◌}
use Rattle.std.proofs.Common.{rules}
use borrow.Author.Tests.{tests}
use Rattle.sheets.specs.Words.{each}
use Rattle.sheets.specs.Rules.{q11, transition_in_range}
use Rattle.sheets.proofs.EachRecord.{all_next}
use Rattle.sheets.proofs.rules.q11.Goals as goal

pub returns : goal.returns
unfolding q11
returns c =
    let p = transition_in_range c.args.r.now in
    all_next c.transitions.result p c.all.ensures.ran (λ x b q k. search (rules, tests)) ∙ ap (λ n. each n p) c.transitions.ensures
