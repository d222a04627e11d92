-- `next` meets its contract: nothing is handed out at the chain's end, and else the present record.
use mathlib.Core.Path.{refl, ap}
use lib.ListN.{length}
use borrow.Author.Rules.{rules}
use Rattle.sheets.proofs.Records.{not_over, over-stays, one-ahead}
use Rattle.sheets.proofs.walker.WalkerIterator.next.Goals as goal

pub returns-then-over-clause-steps : goal.returns-then-over-clause-steps
returns-then-over-clause-steps c = over-stays c.args.self.now _ c.if-over.true refl

pub returns-clause-steps : goal.returns-clause-steps
returns-clause-steps c =
    let w = c.args.self.now in
    let s = c.record_at-record in
    (one-ahead w s.result c.if-over.false s.ensures, (not_over w c.if-over.false, s.ensures, refl))

pub returns-clause-goes : goal.returns-clause-goes
returns-clause-goes c = let e = ap length (one-ahead c.args.self.now c.record_at-record.result c.if-over.false c.record_at-record.ensures) in search rules
