-- `nodes_where` meets its contract: one node after the other is tested, and the last is n.
use mathlib.Core.Path.{◌≡◌, sym, ◌∙◌}
use Prim.Native.Nat.{◌+◌}
use native.Mathlib.Omega.{arith}
use Rattle.truth.proofs.structure.NodeLoops.{before-no, before-yes, before-end}
use Rattle.truth.proofs.structure.nodes_where.Goals as goal
use Rattle.truth.proofs.structure.nodes_where.Goals.{else-loop-s-test, then-loop-s-test+else-s-n, then-test, else-test}

pub loop-s-preserved : goal.loop-s-preserved
loop-s-preserved g c = (
  omega arith,
  λ p t i.
      let is : c.test.result ≡ p c.loop-s.s = t c.loop-s.s c.test.result (omega arith) (omega arith) c.test.ensures in
      elim c.if-test.branch [
        | then-test w ↦ rw w.out-is (w.with-out.ensures i ∙ before-yes p i _ _ (c.loop-s.invariant.1 p t i) (sym is ∙ w.if-test.true))
        | else-test w ↦ rw w.out-is (before-no p i _ _ (c.loop-s.invariant.1 p t i) (sym is ∙ w.if-test.false))
      ],
)

pub returns : goal.returns
returns g c p t i =
    rw (← before-end p i c.args.n) (elim c.loop-s-test.branch [
      | else-loop-s-test w ↦ let e : c.loop-s.s ≡ c.args.n + 1 = omega arith in rw (w.out-is, ← e) (c.loop-s.invariant.1 p t i)
      | then-loop-s-test+else-s-n w ↦
          let e : c.loop-s.s ≡ c.args.n = omega arith in
          let is : w.test.result ≡ p c.loop-s.s = t c.loop-s.s w.test.result (omega arith) (omega arith) w.test.ensures in
          rw (w.out-is, ← e) (elim w.if-test.branch [
            | then-test v ↦ rw v.out-is (v.with-out.ensures i ∙ before-yes p i _ _ (c.loop-s.invariant.1 p t i) (sym is ∙ v.if-test.true))
            | else-test v ↦ rw v.out-is (before-no p i _ _ (c.loop-s.invariant.1 p t i) (sym is ∙ v.if-test.false))
          ])
    ])
