-- `q9` meets its contract: its closure answers for each automaton as question 9 does.
use mathlib.Core.Path.{ap, ◌∙◌}
use Rattle.std.proofs.Common.{rules}
use borrow.Author.Tests.{tests}
use Rattle.sheets.specs.Words.{each}
use Rattle.sheets.specs.Rules.{lent, q9, automaton_in_range}
use Rattle.sheets.proofs.EachRecord.{all_next}
use Rattle.sheets.proofs.rules.q9.Goals as goal

pub returns : goal.returns
unfolding q9
returns c =
    let p = automaton_in_range lent c.args.r.now in
    all_next c.automata.result p c.all.ensures.ran (λ x b q k. search (rules, tests)) ∙ ap (λ n. each n p) c.automata.ensures
