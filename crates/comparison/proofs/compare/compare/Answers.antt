-- `compare` meets its contract: the first "no" of the table refuses; else the refinement answers, by the start nodes in its blocks.
use mathlib.Core.Path.{sym}
use mathlib.Core.Logic.{inl}
use native.Mathlib.Omega.{arith}
use Rattle.std.proofs.lemmas.Result.{err_from_is_err_and}
use Rattle.truth.proofs.Passed.{no_number}
use Rattle.comparison.specs.inner.Bounded.{Bounded}
use Rattle.comparison.proofs.CompareAnswers.{refused, known, small, fits, equal-answer, listed, unequal-answer}
use borrow.Author.Rules.{rules}
use Rattle.comparison.proofs.compare.compare.Goals as goal

pub returns-in_err-check_comparison : goal.returns-in_err-check_comparison
returns-in_err-check_comparison c =
    let a = c.args in
    let p = err_from_is_err_and c.from_residual.result c.from_residual.ensures.1 in
    rw (p.1, p.2) (refused a.m1.now a.m2.now a.space.now c.in_err-check_comparison.field-0.0 c.in_err-check_comparison.ensures.refusal)

pub refine-partition-requires : goal.refine-partition-requires
unfolding Bounded
refine-partition-requires c =
    let a = c.args in
    let e = sym (no_number _ c.in_ok-check_comparison.ensures.refusal) in
    let k = known a.m1.now a.m2.now a.space.now e in
    record { accepted1 = k.first; accepted2 = k.second; bounded = inl k.few }

pub one_sided-requires : goal.one_sided-requires
one_sided-requires c =
    let a = c.args in
    let e = sym (no_number _ c.in_ok-check_comparison.ensures.refusal) in
    let k = small a.m1.now a.m2.now a.space.now e in
    let f = fits a.m1.now a.m2.now a.space.now e c.refine-partition.result c.refine-partition.ensures in
    record { nodes1 = k.0; nodes2 = k.1 }

pub returns-in-None : goal.returns-in-None
returns-in-None c =
    let a = c.args in
    let e = sym (no_number _ c.in_ok-check_comparison.ensures.refusal) in
    let r = c.refine-partition in
    equal-answer a.m1.now a.m2.now a.space.now e r.result r.ensures c.in-None.ensures

pub push-requires : goal.push-requires
push-requires c =
    let a = c.args in
    let e = sym (no_number _ c.in_ok-check_comparison.ensures.refusal) in
    let r = c.refine-partition in
    (fits a.m1.now a.m2.now a.space.now e r.result r.ensures).2

pub put_sheet-requires-clause-fits : goal.put_sheet-requires-clause-fits
put_sheet-requires-clause-fits c =
    let a = c.args in
    let e = sym (no_number _ c.in_ok-check_comparison.ensures.refusal) in
    let r = c.refine-partition in
    let f = fits a.m1.now a.m2.now a.space.now e r.result r.ensures in
    omega (arith, f.1, c.push.ensures.pushed.count)

pub put_sheet-requires-clause-listed : goal.put_sheet-requires-clause-listed
put_sheet-requires-clause-listed c =
    let a = c.args in
    let e = sym (no_number _ c.in_ok-check_comparison.ensures.refusal) in
    let r = c.refine-partition in
    listed a.m1.now a.m2.now a.space.now e r.result r.ensures _ c.in-Some.ensures c.push.new.self (search rules) c.push.ensures.pushed

pub returns-in-Some : goal.returns-in-Some
returns-in-Some c =
    let a = c.args in
    let e = sym (no_number _ c.in_ok-check_comparison.ensures.refusal) in
    let r = c.refine-partition in
    unequal-answer a.m1.now a.m2.now a.space.now e r.result r.ensures _ c.in-Some.ensures c.push.new.self (search rules) c.push.ensures.pushed _ c.put_sheet.ensures
