-- `push_split` meets its contract: six lines one after the other.
use Rattle.comparison.proofs.HeldLines.{pushed-split}
use Rattle.comparison.proofs.writing.Written.push_split.Goals as goal

pub returns-clause-pushed : goal.returns-clause-pushed
returns-clause-pushed c =
    pushed-split _ _ _ _ _ _ _ _ _ _ _ _ _ c.push-not_b.ensures.number c.push-not_p.ensures.number c.push-outside_or_not_b.ensures.number
    c.push-inside_or_not_b.ensures.number c.push-not_b.ensures.pushed c.push-not_p.ensures.pushed c.push-outside_or_not_b.ensures.pushed
    c.push-inside.ensures.pushed c.push-inside_or_not_b.ensures.pushed c.push-outside.ensures.pushed
