-- `judge` meets its contract: where the second machine breaks the rule the first keeps it, and otherwise the first breaks it.
use Rattle.explain.proofs.ToldRules.{judged-first, not-both, some-break}
use Rattle.explain.proofs.verdict.judge.Goals as goal

pub returns-in-Some : goal.returns-in-Some
returns-in-Some c =
    judged-first c.args.first.now c.args.second.now c.args.rule.now c.requires.apart c.in-Some.node c.in-Some.ensures

pub unwrap-requires : goal.unwrap-requires
unwrap-requires c =
    let a = c.args in
    some-break a.first.now a.rule.now _ c.broken_at-2.ensures
    (not-both a.first.now a.second.now a.rule.now c.requires.apart c.in_default.ensures)
