-- `either` meets its contract where one of the two lines is true nowhere.
use mathlib.Core.Path.{refl, ◌∙◌}
use Rattle.comparison.specs.inner.Needed.{second, first}
use Rattle.comparison.proofs.needed.Merging.either.Goals as goal

pub returns-then-x-nowhere : goal.returns-then-x-nowhere
returns-then-x-nowhere c = second _ c.in-Some.is (c.if-x-nowhere.true ∙ c.in-Some-find.ensures.some) refl

pub returns-then-y-nowhere : goal.returns-then-y-nowhere
returns-then-y-nowhere c = first _ c.in-Some.is (c.if-y-nowhere.true ∙ c.in-Some-find.ensures.some) refl
