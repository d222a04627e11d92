-- `total` meets its contract: under each valuation exactly one transition is taken.
use mathlib.Core.Path.{◌≡◌, ◌∙◌}
use mathlib.Core.Bool.{not, ◌&&◌}
use native.Mathlib.Omega.{arith}
use Rattle.std.proofs.Common.{rules}
use borrow.Author.Tests.{tests}
use Rattle.sheets.specs.Format.{word_bits}
use Rattle.sheets.specs.Words.{bit}
use Rattle.sheets.specs.Rules.{total, transitions_of}
use Rattle.sheets.proofs.EachRecord.{all_next}
use Rattle.sheets.proofs.BitLaws.{one_shifted}
use Rattle.sheets.proofs.AutomatonLoops.{served, served-once}
use Rattle.sheets.proofs.automata.total.Goals as goal

pub returns : goal.returns
unfolding total
returns c =
    let R = c.args.r.now in
    let ys = transitions_of R c.args.q in
    let out = c.leaving-out in
    rw (one_shifted word_bits c.args.v (omega arith)) at
    (all_next _ (served R ys) c.all.ensures.ran
    (λ x b q k.
    let h : (q ≡ _) × (b ≡ (bit out.result.once x && not (bit out.result.twice x))) = search (rules, tests) in
    (h.0, h.1 ∙ served-once R ys x (out.ensures.some x) (out.ensures.several x))))
