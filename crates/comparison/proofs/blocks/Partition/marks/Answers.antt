-- `marks` meets its contract. The invariant: the nodes of the blocks before c have their marks, and there are no others.
use mathlib.Core.Path.{◌≡◌, refl, sym, ◌∙◌}
use Prim.Native.Nat.{ℕ, ◌+◌}
use native.Mathlib.Omega.{arith}
use mathlib.Core.Bool.{true, ◌&&◌, and-true}
use lib.Dec.{leb}
use Rattle.truth.specs.Passed.{within}
use Rattle.truth.specs.Sizes.{members_most}
use Rattle.truth.proofs.structure.NodeLoops.{before, before-none, before-yes, before-end}
use Rattle.comparison.proofs.MarkedNodes.{marked-none, marked_more}
use Rattle.comparison.proofs.blocks.Partition.marks.Goals as goal

-- up to the last mark
whole : (n e : ℕ) → before (λ k. true) (n + 1) e ≡ (leb e n && within 1 members_most e)
whole n e = before-end (λ k. true) e n ∙ rw (and-true (within 1 members_most e)) refl

pub loop-c-init : goal.loop-c-init
loop-c-init c = record {
  first = marked-none _ _;
  second = marked-none _ _;
  first_all = λ e. c.none.ensures.all e ∙ sym (before-none (λ k. true) e);
  second_all = λ e. c.none-2.ensures.all e ∙ sym (before-none (λ k. true) e);
}

pub loop-c-preserved : goal.loop-c-preserved
loop-c-preserved c =
    let at = c.loop-c.invariant in
    let m = c.mark_block.ensures in
    record {
      first = marked_more _ _ _ _ at.first m.first;
      second = marked_more _ _ _ _ at.second m.second;
      first_all = λ e. m.first_all e ∙ before-yes (λ k. true) e _ _ (at.first_all e) refl;
      second_all = λ e. m.second_all e ∙ before-yes (λ k. true) e _ _ (at.second_all e) refl;
    }

pub returns-clause-first_all : goal.returns-clause-first_all
returns-clause-first_all c e = let done : c.loop-c.c ≡ c.args.self.now.count = omega arith in rw done at (c.loop-c.invariant.first_all e ∙ whole c.loop-c.c e)

pub returns-clause-second_all : goal.returns-clause-second_all
returns-clause-second_all c e = let done : c.loop-c.c ≡ c.args.self.now.count = omega arith in rw done at (c.loop-c.invariant.second_all e ∙ whole c.loop-c.c e)
