-- `check_lines` meets its contract. The invariant: the lines passed, those below j, pass question 15.
use mathlib.Core.Path.{refl, sym, ◌∙◌}
use native.Mathlib.Omega.{arith}
use mathlib.Core.List.{[]}
use Rattle.sheets.specs.Rules.{q15}
use Rattle.sheets.proofs.CheckAnswers.{all-said, said-yes, said-no}
use Rattle.sheets.proofs.DecodedLines.{some-fits, none-fails}
use Rattle.sheets.proofs.EachLoops.{each-starts, each-next, each-halts, each-ends}
use Rattle.sheets.proofs.lines.check_lines.Goals as goal

pub loop-j-init : goal.loop-j-init
loop-j-init c = (omega arith, each-starts c.lines-j-end.ensures)

pub loop-j-preserved : goal.loop-j-preserved
loop-j-preserved c = (omega arith, each-next c.loop-j.invariant.1 c.loop-j.invariant.0 c.loop-j-test.true (some-fits _ _ (sym c.decode.ensures ∙ c.in-Some.is)))

pub returns-in_default : goal.returns-in_default
unfolding q15
returns-in_default c =
    let at = c.loop-j in
    said-no 15 0 [] (each-halts at.invariant.1 at.invariant.0 c.loop-j-test.true (none-fails _ _ (sym c.decode.ensures ∙ c.in_default.is))) refl

pub returns : goal.returns
unfolding q15
returns c = said-yes 15 0 [] (each-ends c.loop-j.invariant.1 (omega arith)) refl all-said

pub returns-in-Some : goal.returns-in-Some
unfolding q15
returns-in-Some c =
    let at = c.loop-j in
    said-yes 15 0 [] (each-ends (each-next at.invariant.1 at.invariant.0 c.loop-j-test.true (some-fits _ _ (sym c.decode.ensures ∙ c.in-Some.is))) (omega arith)) refl all-said
