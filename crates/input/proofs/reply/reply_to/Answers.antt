-- `reply_to` meets its contract: refused, or what the call answers to the two sheets.
use Rattle.std.proofs.Common.{refl}
use Rattle.std.proofs.lemmas.Result.{err_from_is_err_and}
use Rattle.input.proofs.Cuts.{reply-refused, reply-answered}
use Rattle.input.proofs.reply.reply_to.Goals as goal

pub first-requires : goal.first-requires
first-requires g c = (c.sheets_of.ensures.taken _ c.in_ok-cut.was).1.inside

pub second-requires : goal.second-requires
second-requires g c = (c.sheets_of.ensures.taken _ c.in_ok-cut.was).1.inside

pub returns-in_err-answer : goal.returns-in_err-answer
returns-in_err-answer g c =
    let p = err_from_is_err_and c.from_residual-in_err-answer.result c.from_residual-in_err-answer.ensures.1 in
    rw (p.1, p.2)
    (reply-answered c.sheets_of.ensures _ refl c.in_ok-cut.was c.first.ensures c.second.ensures
    (record { call = _; answers = record { first = _; second = _; lent = _; left = _; shows-first = refl; shows-second = refl; shows-lent = refl; leaves = refl; met = c.in_err-answer.ensures }; told = refl }))

pub returns : goal.returns
returns g c =
    reply-answered c.sheets_of.ensures _ refl c.in_ok-cut.was c.first.ensures c.second.ensures
    (record { call = _; answers = record { first = _; second = _; lent = _; left = _; shows-first = refl; shows-second = refl; shows-lent = refl; leaves = refl; met = c.in_ok-answer.ensures }; told = refl })
