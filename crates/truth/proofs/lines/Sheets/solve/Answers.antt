-- `solve` meets its contract: the tables that it lends are empty.
use Rattle.truth.specs.Sizes.{pairs_most}
use Rattle.truth.proofs.tables.TableLaws.{zero_word}
use Rattle.truth.proofs.lines.Sheets.solve.Goals as goal

pub solve_with-sets-requires-clause-times : goal.solve_with-sets-requires-clause-times
solve_with-sets-requires-clause-times c = zero_word pairs_most
