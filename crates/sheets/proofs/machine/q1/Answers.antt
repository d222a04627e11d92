-- `q1` meets its contract: the length is tested, then each bound on the word that was read.
use borrow.Author.Tests.{le-leb, lt-leb}
use Rattle.sheets.specs.Format.{machine_header}
use Rattle.sheets.specs.Machine.{q1}
use Rattle.sheets.proofs.machine.q1.Goals as goal

pub returns-then-m-lt-MACHINE_HEADER : goal.returns-then-m-lt-MACHINE_HEADER
unfolding q1
returns-then-m-lt-MACHINE_HEADER c = simp (lt-leb machine_header _ c.if-m-lt-MACHINE_HEADER.true)

pub returns : goal.returns
unfolding q1
returns c =
    rw (le-leb machine_header _ c.if-m-lt-MACHINE_HEADER.false, c.within.ensures, c.within-2.ensures, c.within-3.ensures, c.edges-e.ensures, c.signals-a.ensures, c.nodes-n.ensures)
