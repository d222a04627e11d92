-- `path_fits` meets its contract: the tests of question 15 of a path line; with more than 4 variables the record is too short.
use mathlib.Core.Path.{sym}
use mathlib.Core.Bool.{and-false}
use native.Mathlib.Omega.{arith}
use borrow.Author.Tests.{lt-leb}
use Rattle.sheets.specs.Format.{argument_place, line_words}
use Rattle.sheets.specs.Rules.{unused, path_fits}
use Rattle.sheets.proofs.lines.LineRecord.path_fits.Goals as goal

pub returns-then-v-gt-VARIABLES_MOST : goal.returns-then-v-gt-VARIABLES_MOST
unfolding path_fits unused
returns-then-v-gt-VARIABLES_MOST c =
    let v = c.variables-v.result in
    let named = c.word-x.ensures in
    sym (rw (← (rw named at c.variables-v.ensures)) (simp (lt-leb (argument_place v) line_words (omega arith), and-false)))

pub returns : goal.returns
unfolding path_fits
returns c =
    rw (
      c.unused.ensures,
      c.refers_above.ensures,
      c.within.ensures,
      c.automata.ensures,
      c.variables-v.ensures,
      c.word-x.ensures,
    )
