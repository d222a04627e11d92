-- `leaving` meets its contract: what is gathered along the state's chain from no transition.
use borrow.Author.Rules.{rules}
use mathlib.Core.Path.{refl}
use Rattle.sheets.specs.Format.{chained_most}
use Rattle.sheets.proofs.ListedChains.{zeros}
use Rattle.sheets.proofs.LeavingChains.{leaves-along}
use Rattle.sheets.proofs.automata.leaving.Goals as goal

pub returns : goal.returns
returns c =
    let args = c.args in
    leaves-along args.r.now args.q _ _ _ _ _ c.transitions_from.ensures c.state_word.ensures
    c.transitions.ensures (search rules) (zeros chained_most) c.none.ensures c.none-2.ensures refl refl refl c.along.ensures
