-- `q7` meets its contract: the length is tested, then each limit on the word that was read.
use mathlib.Core.Path.{sym}
use Rattle.std.proofs.Math.Bool.{◌&&◌, and_assoc}
use lib.Dec.{leb}
use borrow.Author.Tests.{le-leb, lt-leb}
use Rattle.sheets.specs.Format.{rule_header}
use Rattle.sheets.specs.Rules.{automata, states, transitions, lines, fits, q7}
use Rattle.sheets.proofs.rules.q7.Goals as goal

pub returns-then-r-lt-RULE_HEADER : goal.returns-then-r-lt-RULE_HEADER
unfolding q7 fits
returns-then-r-lt-RULE_HEADER c = simp (lt-leb rule_header _ c.if-r-lt-RULE_HEADER.true)

pub returns : goal.returns
unfolding q7 fits
returns c =
    rw (
      le-leb rule_header _ c.if-r-lt-RULE_HEADER.false,
      c.within.ensures,
      c.lines-l.ensures,
      c.transitions-e.ensures,
      c.states-m.ensures,
      c.automata-k.ensures,
    )
    (sym (and_assoc (leb (automata c.args.r.now) 16 && leb (states c.args.r.now) 256 && leb (transitions c.args.r.now) 1024) (leb 1 (lines c.args.r.now)) (leb (lines c.args.r.now) 1024)))
