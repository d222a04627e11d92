-- `next_back` of a row's nodes meets its contract: fewer are left.
use Rattle.truth.proofs.rows.RowMembers.{taken-fewer}
use Rattle.truth.proofs.rows.MembersDoubleEndedIterator.next_back.Goals as goal

pub returns-clause-goes : goal.returns-clause-goes
returns-clause-goes c =
    record { on = λ _. (tt, tt, taken-fewer _ _ _ c.in_ok-last.ensures c.without-self.ensures); keeps = tt; rests = λ _. tt }
