-- `merge` meets its contract. The invariant: the lines before i are done.
use mathlib.Core.Path.{◌≡◌}
use Prim.Native.Nat.{◌+◌, ◌-◌, ◌≤◌}
use native.Mathlib.Omega.{arith}
use lib.ListN.{length}
use Rattle.comparison.proofs.needed.Merging.merge.Goals as goal

pub loop-i-init : goal.loop-i-init
loop-i-init c = record { high = omega arith; merged = λ a ls lists. c.requires.none ls }

pub loop-i-preserved : goal.loop-i-preserved
loop-i-preserved c =
    let at = c.loop-i in
    record {
      high = omega arith;
      merged = λ a ls lists.
          let count = lists.count in
          let here : at.i ≤ length ls = omega arith in
          let e : at.i + 1 - 1 ≡ at.i = omega arith in
          rw e (c.merge_line.ensures a ls lists.down here (c.line.ensures ls lists.holds here) (at.invariant.merged a ls lists));
    }

pub returns-2 : goal.returns-2
returns-2 c a ls lists =
    let count = lists.count in
    let at = c.loop-i in
    let e : at.i ≡ c.args.lines.now.count = omega arith in
    let here : at.i ≤ length ls = omega arith in
    rw e at (c.merge_line.ensures a ls lists.down here (c.line.ensures ls lists.holds here) (at.invariant.merged a ls lists)).stands
