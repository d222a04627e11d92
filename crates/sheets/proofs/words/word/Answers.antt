-- `word` meets its contract: past the end a word is 0.
use Rattle.std.proofs.Common.{arith}
use Rattle.std.proofs.lemmas.Grind.{common_steps}
use Rattle.sheets.specs.Words.{word}
use Rattle.sheets.proofs.words.word.Goals as goal

pub returns : goal.returns
unfolding word
returns c = grind (arith, common_steps)
