-- `merge_line` meets its contract, kind by kind.
use mathlib.Core.Path.{ap, ◌∙◌}
use Prim.Native.Nat.{◌-◌}
use native.Mathlib.Omega.{arith}
use Rattle.comparison.specs.inner.Lines.{entry_of}
use Rattle.comparison.proofs.MergedLines.{next-kept, next-not, next-next, next-or}
use borrow.Author.Rules.{rules}
use Rattle.comparison.proofs.needed.Merging.merge_line.Goals as goal

pub returns-in-Signal : goal.returns-in-Signal
returns-in-Signal c a ls down inside e m =
    let i = c.args.i in
    next-kept a ls down (i - 1) i (omega arith) inside (omega arith) _ _ _ _ _ (search rules) (search rules) (search rules) m c.put.ensures

pub returns-in-Not : goal.returns-in-Not
returns-in-Not c a ls down inside e m =
    let i = c.args.i in
    next-not a ls down (i - 1) i (omega arith) inside (omega arith) _ _ _ _ _ (search rules) (search rules) (search rules) m
    _ _ _ _ (e ∙ ap entry_of c.in-Not.is) c.get-there.ensures c.opposite_or-found.ensures c.put-in-Not.ensures

pub returns-in-Or : goal.returns-in-Or
returns-in-Or c a ls down inside e m =
    let i = c.args.i in
    next-or a ls down (i - 1) i (omega arith) inside (omega arith) _ _ _ _ _ (search rules) (search rules) (search rules) m
    _ _ _ _ _ _ (e ∙ ap entry_of c.in-Or.is) c.get-x.ensures c.get-y.ensures c.either-found.ensures c.top_after-self.ensures.found c.top_after-self.ensures.kept c.put-in-Or.ensures

pub returns-in-Next : goal.returns-in-Next
returns-in-Next c a ls down inside e m =
    let i = c.args.i in
    next-next a ls down (i - 1) i (omega arith) inside (omega arith) _ _ _ _ _ (search rules) (search rules) (search rules) m
    _ _ _ _ (e ∙ ap entry_of c.in-Next.is) c.get-there-in-Next.ensures c.number_or-found.ensures c.put-in-Next.ensures
