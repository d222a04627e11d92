-- `q6` meets its contract: its closure answers for each node as question 6 does.
use mathlib.Core.Path.{ap, ◌∙◌}
use mathlib.Core.Bool.{not}
use Rattle.std.proofs.Common.{rules}
use borrow.Author.Tests.{tests}
use Rattle.sheets.specs.Words.{each}
use Rattle.sheets.specs.MachineForms.{q6, no_start}
use Rattle.sheets.proofs.EachRecord.{any_next}
use Rattle.sheets.proofs.machine.q6.Goals as goal

pub returns : goal.returns
unfolding q6
returns c =
    let p = no_start c.args.f c.args.m.now in
    any_next c.nodes.result p c.any.ensures.ran (λ x b q k. search (rules, tests)) ∙ ap (λ n. not (each n p)) c.nodes.ensures
