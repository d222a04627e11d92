-- `refers_above` meets its contract: its closure asks of each word from c + 1 to c + n.
use mathlib.Core.Path.{◌≡◌, ap, ◌∙◌}
use Prim.Native.Nat.{ℕ, ◌+◌, ◌-◌}
use native.Mathlib.Omega.{arith}
use Rattle.std.proofs.Common.{rules}
use borrow.Author.Tests.{tests}
use Rattle.sheets.specs.Words.{within, each}
use Rattle.sheets.specs.Rules.{lent, line_word, refers_above}
use Rattle.sheets.proofs.EachRecord.{all_between}
use Rattle.sheets.proofs.lines.LineRecord.refers_above.Goals as goal

pub returns : goal.returns
unfolding refers_above
returns c =
    let line = c.args.self.now in
    let above_at = λ (k : ℕ). within 1 (line.number - 1) (line_word lent line.sheet.now line.number k) in
    let next : (i : ℕ) → c.args.c + i + 1 ≡ c.args.c + (i + 1) = λ i. omega arith in
    let many : c.args.c + c.args.n - c.args.c ≡ c.args.n = omega arith in
    all_between c.args.c (c.args.c + c.args.n) (λ k. above_at (k + 1)) (λ i. above_at (c.args.c + i)) (λ i. ap above_at (next i)) c.all.ensures.ran
    (λ x b q k. search (rules, tests)) ∙ ap (λ m. each m (λ i. above_at (c.args.c + i))) many
