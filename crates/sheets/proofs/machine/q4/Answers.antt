-- `q4` meets its contract: its closure answers for each node as question 4 does.
use mathlib.Core.Path.{ap, ◌∙◌}
use Rattle.std.proofs.Common.{rules}
use borrow.Author.Tests.{tests}
use Rattle.sheets.specs.Words.{each}
use Rattle.sheets.specs.MachineForms.{q4, first_in_range}
use Rattle.sheets.proofs.EachRecord.{all_next}
use Rattle.sheets.proofs.machine.q4.Goals as goal

pub returns : goal.returns
unfolding q4
returns c =
    let p = first_in_range c.args.f c.args.m.now in
    all_next c.nodes.result p c.all.ensures.ran (λ x b q k. search (rules, tests)) ∙ ap (λ n. each n p) c.nodes.ensures
