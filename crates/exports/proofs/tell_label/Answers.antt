-- `tell_label` meets its contract, answer by answer.
use Rattle.std.proofs.Common.{ap, sym}
use Rattle.exports.specs.Numbers.{label_numbers}
use Rattle.exports.proofs.Flags.{flag}
use Rattle.exports.proofs.tell_label.Goals as goal

pub returns-in-Ok : goal.returns-in-Ok
unfolding label_numbers
returns-in-Ok c = rw (c.from.ensures, flag _) (sym (ap label_numbers c.in-Ok.is))

pub returns-in-Err : goal.returns-in-Err
unfolding label_numbers
returns-in-Err c = rw (c.tell_refusal.ensures.number, c.tell_refusal.ensures.sheet) (sym (ap label_numbers c.in-Err.is))
