-- `sheets_of` meets its contract: the words at the head are all those of the bytes, cut where the first sheet ends.
use mathlib.Core.Path.{sym, ◌∙◌}
use Prim.Native.Nat.{◌≤◌}
use lib.ListN.{length}
use lib.Seq.{length-take-le}
use Rattle.input.proofs.Cuts.{no-sheets, two-sheets}
use borrow.Author.Rules.{rules}
use Rattle.input.proofs.cut.sheets_of.Goals as goal

pub returns : goal.returns
returns c =
    let got = c.words_of-count in
    let start = c.args in
    let end = c.first_end-end in
    two-sheets start.input.now start.words.now (sym c.readable.ensures ∙ c.if-not-readable.false)
    got.new.words got.result end.result got.ensures.counted got.ensures.written got.auto.words end.ensures.value end.ensures.within
