-- `push` meets its contract: the words are those of the line.
use Rattle.comparison.specs.inner.Lines.{words}
use Rattle.comparison.proofs.HeldLines.{pushed-line}
use Rattle.comparison.proofs.writing.Written.push.Goals as goal

pub returns-in-Signal-clause-pushed : goal.returns-in-Signal-clause-pushed
unfolding words
returns-in-Signal-clause-pushed c = let w = c.push_words.ensures in rw c.in-Signal.is (pushed-line _ _ _ w.count w.size w.words)

pub returns-in-Not-clause-pushed : goal.returns-in-Not-clause-pushed
unfolding words
returns-in-Not-clause-pushed c = let w = c.push_words-in-Not.ensures in rw c.in-Not.is (pushed-line _ _ _ w.count w.size w.words)

pub returns-in-Or-clause-pushed : goal.returns-in-Or-clause-pushed
unfolding words
returns-in-Or-clause-pushed c = let w = c.push_words-in-Or.ensures in rw c.in-Or.is (pushed-line _ _ _ w.count w.size w.words)

pub returns-in-Next-clause-pushed : goal.returns-in-Next-clause-pushed
unfolding words
returns-in-Next-clause-pushed c = let w = c.push_words-in-Next.ensures in rw c.in-Next.is (pushed-line _ _ _ w.count w.size w.words)
