-- `record_word` meets its contract. A word's index is below 2 ^ 34, so that no sum wraps.
use Rattle.sheets.specs.Records.{record_word}
use Rattle.sheets.proofs.words.record_word.Goals as goal

pub returns : goal.returns
unfolding record_word
returns c = rw (c.from-3.ensures, c.from-2.ensures, c.from.ensures, c.saturating_sub.ensures) at c.word.ensures
