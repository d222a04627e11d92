-- `mark` meets its contract. The invariant: of the needed lines above line i, what they refer to is marked.
use mathlib.Core.Path.{◌≡◌, sym, ap, ◌∙◌}
use Prim.Native.Nat.{◌+◌, ◌-◌}
use native.Mathlib.Omega.{arith}
use Rattle.comparison.proofs.NeededMarks.{length-marks, closed-skipped, closed-line}
use lib.ListN.{length}
use Rattle.comparison.proofs.needed.mark.Goals as goal
use Rattle.comparison.proofs.needed.mark.Goals.{then-has, else-has}

pub loop-i-preserved : goal.loop-i-preserved
loop-i-preserved c =
    let at = c.loop-i in
    let e : at.i - 1 + 1 ≡ at.i = omega arith in
    elim c.if-has.branch [
      | then-has w ↦ rw w.needed-is (record {
        size = ap length w.mark_line.ensures ∙ length-marks _ _ at.needed.places ∙ at.invariant.size;
        closed = λ a ls lists inside stands.
            rw (w.mark_line.ensures, ← w.line.ensures ls lists.holds (omega arith))
            (closed-line a ls lists.down c.args.same.now.places at.needed.places stands at.invariant.size c.args.j inside (omega arith) at.i (omega arith) (omega arith)
            (at.invariant.closed a ls lists inside stands) (sym c.has.ensures ∙ w.if-has.true) (at.i - 1) e);
      })
      | else-has w ↦ rw w.needed-is (record {
        size = at.invariant.size;
        closed = λ a ls lists inside stands.
            closed-skipped a ls lists.down c.args.same.now.places at.needed.places stands at.invariant.size c.args.j inside (omega arith) at.i (omega arith) (omega arith)
            (at.invariant.closed a ls lists inside stands) (sym c.has.ensures ∙ w.if-has.false) (at.i - 1) e;
      })
    ]

pub returns : goal.returns
returns c a ls lists inside stands =
    let at = c.loop-i in
    let e : at.i ≡ 0 = omega arith in
    rw e at (at.invariant.closed a ls lists inside stands)
