-- `answer_to` meets its contract: refused, or the answer of the comparison, with space for the longest rule.
use Rattle.std.proofs.Common.{refl}
use Rattle.compare.proofs.Comparing.{compared}
use Rattle.compare.proofs.answer.answer_to.Goals as goal

pub returns : goal.returns
returns c =
    let reply = c.reply_to.ensures in
    record {
      refused = λ other. (reply.refused other).0;
      answered = λ ok.
          let a = reply.answered ok in
          let g = a.answers in
          rw a.told (compared _ _ _ _ refl _ (rw (g.shows-first, g.shows-second, g.shows-lent, g.leaves) at g.met));
    }
