-- `put` meets its contract, state by state: a number is stored at the place behind the words before it.
use mathlib.Core.Logic.{⊎_elim}
use native.Mathlib.Omega.{arith}
use Rattle.text.specs.inner.Readers.{held}
use Rattle.text.proofs.read.put.Goals as goal

pub overflow_sub-at-in-Number : goal.overflow_sub-at-in-Number
unfolding held
overflow_sub-at-in-Number c = omega (arith, rw c.in-Number.is at c.requires)

pub bounds-words-at : goal.bounds-words-at
unfolding held
bounds-words-at c = omega (arith, rw c.in-Number.is at c.requires)

pub returns-in-Number : goal.returns-in-Number
unfolding held
returns-in-Number c = rw c.in-Number.is

pub returns-in-Gap : goal.returns-in-Gap
unfolding held
returns-in-Gap c = ⊎_elim (λ e. rw e) (λ e. rw e.2) c.in-Gap.is
