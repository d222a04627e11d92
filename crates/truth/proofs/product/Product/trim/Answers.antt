-- `trim` meets its contract. The invariant: the rows were trimmed since the first pass. The measure is what the pairs that are left or gone count.
use mathlib.Core.Path.{◌≡◌}
use mathlib.Core.Bool.{true, false}
use Rattle.truth.specs.Sizes.{set_words}
use Rattle.truth.proofs.tables.TableLaws.{zero_row}
use Rattle.truth.proofs.trimming.TrimRounds.{trimmed-yes, trimmed-no, greatest}
use Rattle.truth.proofs.product.Product.trim.Goals as goal

pub trim_first-requires : goal.trim_first-requires
trim_first-requires c = λ p s x. rw (zero_row set_words p s) at x

pub loop-preserved : goal.loop-preserved
loop-preserved c = (true, trimmed-yes c.loop.invariant.1 c.trim_round.ensures.trimmed c.loop-test.true)

pub returns : goal.returns
returns c =
    let r = c.trim_round in
    let e : r.result ≡ false = c.loop-test.false in
    let g = trimmed-no c.loop.invariant.1 r.ensures.trimmed e in
    λ n tr up. greatest c.trim_first.ensures g (r.ensures.none e) n tr up
