-- `led_from` meets its contract: past the rows nothing is led to.
use mathlib.Core.Path.{◌≡◌, sym, ◌∙◌}
use native.Mathlib.Omega.{arith}
use lib.ListN.{length}
use borrow.Author.Rules.{rules}
use Rattle.sheets.specs.Format.{chained_most}
use Rattle.sheets.proofs.BitLaws.{bit-none}
use Rattle.sheets.proofs.ListedChains.{past_end}
use Rattle.sheets.proofs.condition.Relation.led_from.Goals as goal

pub returns-then-p-ge-CHAINED_MOST : goal.returns-then-p-ge-CHAINED_MOST
returns-then-p-ge-CHAINED_MOST c i =
    let room : length c.args.self.now.rows ≡ chained_most = search rules in
    c.none.ensures i ∙ rw (past_end c.args.self.now.rows c.args.p (omega (arith, room))) (sym (bit-none i))
