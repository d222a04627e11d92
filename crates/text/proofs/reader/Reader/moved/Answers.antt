-- `moved` meets its contract: a fault stays.
use mathlib.Core.Path.{refl}
use Rattle.text.specs.inner.Readers.{from, held, ended, with_words}
use Rattle.text.proofs.reader.Reader.moved.Goals as goal

pub returns-in-Stopped : goal.returns-in-Stopped
unfolding from held ended with_words
returns-in-Stopped c = record { reads = λ text. rw c.in-Stopped.is; counts = rw c.in-Stopped.is refl }
