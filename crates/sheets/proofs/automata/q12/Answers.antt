-- `q12` meets its contract: its closure answers for each automaton as question 12 does.
use mathlib.Core.Path.{◌∙◌}
use Rattle.std.proofs.Common.{rules}
use borrow.Author.Tests.{tests}
use Rattle.sheets.specs.Rules.{lent, automaton_fits, q12}
use Rattle.sheets.proofs.EachRecord.{all_records}
use Rattle.sheets.proofs.automata.q12.Goals as goal

pub returns : goal.returns
unfolding q12
returns c =
    all_records _ (automaton_fits lent c.args.r.now) c.all.ensures.ran c.new.ensures.start (c.new.ensures.end ∙ c.automata.ensures)
    c.new.ensures.exhausted (λ x b q k. search (rules, tests))
