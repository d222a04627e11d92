-- `unused` meets its contract: its closure asks of each word from c on.
use mathlib.Core.Path.{ap}
use Prim.Native.Nat.{ℕ}
use native.Mathlib.Omega.{arith}
use lib.Dec.{eqb}
use Rattle.std.proofs.Common.{rules}
use borrow.Author.Tests.{tests, le-leb, lt-leb}
use Rattle.sheets.specs.Format.{line_words}
use Rattle.sheets.specs.Rules.{lent, line_word, unused}
use Rattle.sheets.proofs.EachRecord.{all_between}
use Rattle.sheets.proofs.lines.LineRecord.unused.Goals as goal

pub returns-then-c-gt-LINE_WORDS : goal.returns-then-c-gt-LINE_WORDS
unfolding unused
returns-then-c-gt-LINE_WORDS c = simp (lt-leb _ line_words c.if-c-gt-LINE_WORDS.true)

pub returns : goal.returns
unfolding unused
returns c =
    let line = c.args.self.now in
    let zero_at = λ (k : ℕ). eqb (line_word lent line.sheet.now line.number k) 0 in
    simp (le-leb _ line_words c.if-c-gt-LINE_WORDS.false)
    (all_between c.args.c line_words zero_at _ (λ i. ap zero_at (omega arith)) c.all.ensures.ran (λ x b q k. search (rules, tests)))
