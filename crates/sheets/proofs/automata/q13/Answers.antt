-- `q13` meets its contract: its closure answers for each automaton, of which each has few variables.
use mathlib.Core.Path.{◌∙◌}
use native.Mathlib.Omega.{arith}
use Rattle.std.proofs.Common.{rules}
use borrow.Author.Tests.{tests}
use Rattle.sheets.specs.Rules.{q13, automaton_total}
use Rattle.sheets.proofs.EachRecord.{all_records, serves_records}
use Rattle.sheets.proofs.AutomatonLoops.{few-variables}
use Rattle.sheets.proofs.automata.q13.Goals as goal

pub all-requires-clause-callable : goal.all-requires-clause-callable
all-requires-clause-callable c =
    serves_records c.automata.result c.new.ensures.start c.new.ensures.end c.new.ensures.exhausted (λ x q d. search (rules, tests))
    (λ x l h κs p g at r room u k. few-variables c.args.r.now x c.requires (omega arith) (omega (arith, h, c.automata.ensures)))

pub returns : goal.returns
unfolding q13
returns c =
    all_records _ (automaton_total c.args.r.now) c.all.ensures.ran c.new.ensures.start (c.new.ensures.end ∙ c.automata.ensures)
    c.new.ensures.exhausted (λ x b q k. search (rules, tests))
