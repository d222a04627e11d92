-- `unlike` meets its contract: the first node from the highest on whose signature differs tells, or all came and none differs.
use borrow.Author.Rules.{rules}
use mathlib.Core.Path.{◌≡◌}
use Rattle.truth.specs.inner.Rows.{row_has}
use Rattle.comparison.proofs.UnlikeNodes.{apart-as, unlike-searched}
use Rattle.comparison.proofs.signatures.unlike.Goals as goal

pub returns : goal.returns
returns c =
    let a = c.args in
    let same : c.rev.result.iter.left ≡ a.row = cc in
    rw same at (unlike-searched (λ s. s.iter.left) _ (λ s t r k. k) a.m.now.words.now a.marks.now.of (row_has a.l) _ _ (λ x r q k. search rules) (λ x r k. search (rules, apart-as)) c.rev.result c.find_map.result c.find_map.ensures.runs)
