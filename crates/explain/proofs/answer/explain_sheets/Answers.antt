-- `explain_sheets` meets its contract: unequal, the part of the space that it lends is the written rule, whole.
use mathlib.Core.Path.{sym}
use lib.Seq.{length-take-le}
use Rattle.std.proofs.lemmas.Result.{err_from_is_err_and}
use Rattle.explain.proofs.Explanations.{explained-refused, explained-equal, told-within, told-rule, explained-unequal}
use Rattle.explain.proofs.answer.explain_sheets.Goals as goal

pub slice_bounds-judge-end : goal.slice_bounds-judge-end
slice_bounds-judge-end c =
    let told = rw c.in-Unequal.is at c.in_ok-answer.ensures in
    told-within _ _ _ c.compare.new.space told c.rule_end-end.result c.rule_end-end.ensures

pub slice_bounds-judge-end-in-Unequal : goal.slice_bounds-judge-end-in-Unequal
slice_bounds-judge-end-in-Unequal c =
    let end = c.rule_end-end in
    let after = c.compare.new.space in
    let told = rw c.in-Unequal.is at c.in_ok-answer.ensures in
    sym (length-take-le end.result after (told-within _ _ _ after told end.result end.ensures))

pub judge-requires : goal.judge-requires
judge-requires c =
    let told = rw c.in-Unequal.is at c.in_ok-answer.ensures in
    told-rule _ _ _ c.compare.new.space told c.rule_end-end.result c.rule_end-end.ensures

pub returns-in-Unequal : goal.returns-in-Unequal
returns-in-Unequal c =
    let told = rw c.in-Unequal.is at c.in_ok-answer.ensures in
    explained-unequal _ _ _ c.compare.new.space told c.rule_end-end.result c.rule_end-end.ensures
    c.judge.result c.judge.ensures
