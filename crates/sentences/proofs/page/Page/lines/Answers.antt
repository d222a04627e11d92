-- `lines` meets its contract: what the invariant says of the page is true of its text alone.
use Rattle.std.proofs.Common.{sym, ◌∙◌, rules}
use Rattle.sentences.proofs.Pages.{ended_text}
use Rattle.sentences.proofs.page.Page.lines.Goals as goal

pub returns : goal.returns
returns c = sym (rw (← c.self.view_is) (ended_text _ _ (search rules) ∙ c.self.invariant.ended))
