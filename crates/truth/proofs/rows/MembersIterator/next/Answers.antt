-- `next` of a row's nodes meets its contract: fewer are left.
use Rattle.truth.proofs.rows.RowMembers.{taken-fewer}
use Rattle.truth.proofs.rows.MembersIterator.next.Goals as goal

pub returns-clause-goes : goal.returns-clause-goes
returns-clause-goes c =
    record { on = λ _. (tt, tt, taken-fewer _ _ _ c.in_ok-first.ensures c.without-self.ensures); keeps = tt; rests = λ _. tt }
