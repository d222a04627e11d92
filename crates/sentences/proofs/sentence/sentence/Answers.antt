-- `sentence` meets its contract: what found no room is left out.
use Rattle.sentences.proofs.Pages.{narrow-none}
use Rattle.sentences.proofs.sentence.sentence.Goals as goal

pub returns-then-is_err : goal.returns-then-is_err
returns-then-is_err c = narrow-none _
