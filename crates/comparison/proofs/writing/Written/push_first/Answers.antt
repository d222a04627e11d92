-- `push_first` meets its contract: the signals, and two lines more.
use Rattle.comparison.proofs.HeldLines.{pushed-first}
use Rattle.comparison.proofs.writing.Written.push_first.Goals as goal

pub returns-clause-holds : goal.returns-clause-holds
returns-clause-holds c =
    pushed-first _ _ _ _ _ c.push_signals.ensures.count c.push_signals.ensures.holds c.push-not_first.ensures.pushed c.push-not_first.ensures.number c.push.ensures.pushed
