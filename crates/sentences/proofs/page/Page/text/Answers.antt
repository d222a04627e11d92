-- `text` meets its contract: what the invariant says of the page is true of its text alone.
use Rattle.std.proofs.Common.{rules}
use Rattle.sentences.proofs.Pages.{narrow_text}
use Rattle.sentences.proofs.page.Page.text.Goals as goal

pub returns-clause-narrow : goal.returns-clause-narrow
returns-clause-narrow c = narrow_text _ _ c.self.invariant.above (search rules)
