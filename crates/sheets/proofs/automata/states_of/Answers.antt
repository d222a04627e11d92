-- `states_of` meets its contract: what is gathered along the chain from no number.
use mathlib.Core.Path.{refl}
use native.Mathlib.Omega.{arith}
use Prim.Native.Nat.{ℕ}
use lib.ListN.{length-replicate}
use Rattle.sheets.specs.Format.{chained_most, states_from}
use Rattle.sheets.specs.Rules.{automata, states, initial}
use Rattle.sheets.proofs.ListedChains.{zeros, states-along}
use Rattle.sheets.proofs.automata.states_of.Goals as goal

pub returns : goal.returns
returns c =
    let R = c.args.r.now in
    states-along R (states_from (automata R)) (initial R c.args.x) (states R) _ _ refl (omega (arith, c.states_on.type_inv, c.states_on.ensures.left)) refl
    (length-replicate {A = ℕ} chained_most 0) (zeros chained_most)
    (rw c.states_on.ensures.ahead at c.along.ensures)
