-- `put_byte` meets its contract: the byte goes into the line, where that has room.
use Rattle.std.proofs.Common.{rules}
use Rattle.sentences.proofs.Pages.{laid_byte}
use Rattle.sentences.proofs.page.Page.put_byte.Goals as goal

pub invariant_of-self : goal.invariant_of-self
invariant_of-self c = laid_byte _ _ _ _ c.args.byte c.self.invariant (search rules) (search rules) (search rules)
