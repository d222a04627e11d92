-- `empty` meets its contract: no byte is put.
use Rattle.std.proofs.Common.{refl}
use Rattle.sentences.proofs.Pages.{laid_none}
use Rattle.sentences.proofs.page.Page.empty.Goals as goal

pub invariant_of-result : goal.invariant_of-result
invariant_of-result c = laid_none _ refl
