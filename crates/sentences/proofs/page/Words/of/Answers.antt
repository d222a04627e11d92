-- `of` meets its contract: the words are what was written behind none.
use Rattle.sentences.proofs.Pages.{appends_written}
use Rattle.sentences.proofs.page.Words.of.Goals as goal

pub returns : goal.returns
returns g c = appends_written _ _ _ c.in_ok-write.ensures.writes
