-- `automaton_fits` meets its contract: more states than may be, or its closure answers for each state.
use mathlib.Core.Path.{sym, ◌∙◌}
use lib.ListN.{take}
use Rattle.std.proofs.Common.{rules}
use borrow.Author.Tests.{tests}
use Rattle.std.proofs.lemmas.Iterator.{YieldsList-from_slice}
use Rattle.sheets.specs.Rules.{transitions_of, transitions_fit}
use Rattle.sheets.proofs.EachRecord.{all_elements}
use Rattle.sheets.proofs.AutomatonLoops.{unfit-if-many, fits-listed}
use Rattle.sheets.proofs.automata.automaton_fits.Goals as goal

pub returns-then-n-gt-CHAINED_MOST : goal.returns-then-n-gt-CHAINED_MOST
returns-then-n-gt-CHAINED_MOST c = sym (unfit-if-many _ _ c.states_of-all.ensures.count c.if-n-gt-CHAINED_MOST.true)

pub returns : goal.returns
returns c =
    let a = c.args in
    let all = c.states_of-all.result in
    let listed = take all.count all.numbers in
    all_elements c.all.new.self listed (λ q. transitions_fit a.r.now c.variables-v.result listed (transitions_of a.r.now q)) c.all.ensures.ran (YieldsList-from_slice listed (search rules)) (λ x b q k. search (rules, tests))
    ∙ fits-listed a.r.now a.x c.variables-v.result all c.states_of-all.ensures c.if-n-gt-CHAINED_MOST.false c.variables-v.ensures
