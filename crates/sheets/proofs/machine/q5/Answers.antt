-- `q5` meets its contract: its closure answers for each edge as question 5 does.
use mathlib.Core.Path.{ap, ◌∙◌}
use Rattle.std.proofs.Common.{rules}
use borrow.Author.Tests.{tests}
use Rattle.sheets.specs.Words.{each}
use Rattle.sheets.specs.MachineForms.{q5, edge_in_range}
use Rattle.sheets.proofs.EachRecord.{all_next}
use Rattle.sheets.proofs.machine.q5.Goals as goal

pub returns : goal.returns
unfolding q5
returns c =
    let p = edge_in_range c.args.f c.args.m.now in
    all_next c.edges.result p c.all.ensures.ran (λ x b q k. search (rules, tests)) ∙ ap (λ n. each n p) c.edges.ensures
