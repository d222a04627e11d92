-- `scan` meets its contract. The loop's invariant: the reader has passed so many bytes.
use mathlib.Core.Logic.{⊎_elim}
use native.Mathlib.Omega.{arith}
use mathlib.Core.List.{[]}
use Rattle.text.proofs.Passing.{passed_none, passed-more, counted-at-gap, counted-at-number, faulty-at-end}
use Rattle.text.proofs.read.scan.Goals as goal

pub loop-byte-init : goal.loop-byte-init
loop-byte-init c = rw c.start-reader.ensures ([], passed_none c.args.room c.args.text.now)

pub loop-byte-preserved : goal.loop-byte-preserved
loop-byte-preserved c = (_, passed-more _ _ _ _ _ _ c.loop-byte-test.true c.loop-byte.invariant.1 c.step-reader.ensures)

pub returns-in-Gap-clause-answer : goal.returns-in-Gap-clause-answer
returns-in-Gap-clause-answer c =
    let at = c.loop-byte in
    ⊎_elim
    (λ e. counted-at-gap _ c.args.text.now at.byte-index _ _ (omega arith) at.invariant.1 e)
    (λ e. counted-at-number _ c.args.text.now at.byte-index _ _ (omega arith) at.invariant.1 _ _ e.2)
    c.in-Gap.is

pub returns-in-Stopped-clause-answer : goal.returns-in-Stopped-clause-answer
returns-in-Stopped-clause-answer c =
    let at = c.loop-byte in
    faulty-at-end _ c.args.text.now at.byte-index _ _ (omega arith) at.invariant.1 _ _ c.in-Stopped.is
