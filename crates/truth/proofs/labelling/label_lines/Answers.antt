-- `label_lines` meets its contract: one line more has its row, which has its truths.
use Rattle.std.proofs.Common.{◌≡◌, ◌+◌, ◌-◌, arith}
use Rattle.sheets.proofs.AcceptedMachine.{nodes-sized}
use Rattle.truth.proofs.lines.ReadyTables.{ready}
use Rattle.truth.proofs.labelling.LineTruths.{written-more}
use Rattle.truth.proofs.labelling.label_lines.Goals as goal

pub write_predecessors-requires : goal.write_predecessors-requires
write_predecessors-requires c =
    omega (arith, c.nodes-n.ensures, nodes-sized c.args.m.now c.requires.machine)

pub invariant_of-sheets : goal.invariant_of-sheets
invariant_of-sheets c = record {
  ready = ready c.args.m.now c.args.r.now _ _ _ c.nodes-n.ensures c.requires.machine c.requires.rules c.write_successors.ensures c.write_predecessors.ensures;
}

pub loop-j-preserved : goal.loop-j-preserved
loop-j-preserved c =
    let e : c.loop-j.j ≡ c.loop-j.j - 1 + 1 = omega arith in
    let i : c.loop-j.j + 1 - 1 ≡ c.loop-j.j = omega arith in
    record {
      next = omega arith;
      rows = rw i
          (written-more c.args.m.now c.args.r.now c.requires.machine c.requires.rules _ _ _ _ c.loop-j.invariant.rows e
          (omega (arith, c.requires.lines)) (omega (arith, c.requires.room)) c.row_of_line-row.ensures c.set_line_row.ensures);
    }

pub returns-2 : goal.returns-2
returns-2 c =
    let e : c.loop-j.j ≡ c.loop-j.j - 1 + 1 = omega arith in
    let i : c.loop-j.j ≡ c.args.upto = omega arith in
    rw i at
    (written-more c.args.m.now c.args.r.now c.requires.machine c.requires.rules _ _ _ _ c.loop-j.invariant.rows e
    (omega (arith, c.requires.lines)) (omega (arith, c.requires.room)) c.row_of_line-row.ensures c.set_line_row.ensures)
