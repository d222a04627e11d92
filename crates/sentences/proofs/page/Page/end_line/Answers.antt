-- `end_line` meets its contract: a line end is put, where one more line has room.
use Rattle.std.proofs.Common.{refl, rules}
use Rattle.sentences.proofs.Pages.{laid_end}
use Rattle.sentences.proofs.page.Page.end_line.Goals as goal

pub invariant_of-self : goal.invariant_of-self
invariant_of-self c = laid_end _ _ _ _ 10 c.self.invariant (search rules) refl (search rules)
