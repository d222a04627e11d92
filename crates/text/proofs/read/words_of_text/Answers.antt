-- `words_of_text` meets its contract: nothing is written until the answer is known.
use mathlib.Core.Path.{sym, ◌∙◌}
use Rattle.text.proofs.Filling.{left-filled, left_alone}
use Rattle.text.proofs.read.words_of_text.Goals as goal

pub returns-in_err-count-clause-left : goal.returns-in_err-count-clause-left
returns-in_err-count-clause-left c = left_alone _ _ _ (sym c.in_err-count.was ∙ c.scan.ensures.answer)

pub returns-clause-left : goal.returns-clause-left
returns-clause-left c = left-filled _ _ _ _ (sym c.in_ok-count.was ∙ c.scan.ensures.answer) c.fill.ensures
