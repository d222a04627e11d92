-- `copy_needed` meets its contract. The invariant: the needed lines before i are copied.
use mathlib.Core.Path.{refl, sym, ◌∙◌}
use Prim.Native.Nat.{◌+◌}
use borrow.Author.Rules.{rules}
use native.Mathlib.Omega.{arith}
use Rattle.comparison.proofs.CopiedLines.{Copying, copying-none, copying-skip, copying-more, copying-end}
use Rattle.comparison.proofs.needed.copy_needed.Goals as goal
use Rattle.comparison.proofs.needed.copy_needed.Goals.{Joined-has, then-has, else-has}

pub loop-i-init : goal.loop-i-init
loop-i-init c = record { high = omega arith; copying = copying-none _ _ _ _ _ _ refl (search rules) (search rules) }

-- what is copied when line i is done
done : (c : Joined-has) → Copying c.args.lines.now c.args.j c.args.same.now.places c.args.needed.now.places (c.loop-i.i + 1) c.if-has.number.places c.if-has.out
done c =
    let at = c.loop-i in
    elim c.if-has.branch [
      | then-has w ↦
          rw w.out-is
          (copying-more _ _ _ _ c.requires.few at.i (omega arith) (omega arith) at.number.places at.out at.invariant.copying (sym c.has.ensures ∙ w.if-has.true) _ _ _
          (λ ls holds inside. w.line.ensures ls holds inside) w.renumbered-line.ensures w.push.ensures.pushed _ (rw (w.number-is, ← w.push.ensures.number) w.put.ensures))
      | else-has w ↦
          rw (w.out-is, w.number-is)
          (copying-skip _ _ _ _ c.requires.few at.i (omega arith) (omega arith) at.number.places at.out at.invariant.copying (sym c.has.ensures ∙ w.if-has.false))
    ]

pub loop-i-preserved : goal.loop-i-preserved
loop-i-preserved c = record { high = omega arith; copying = done (goal.at.loop-i-preserved c).Joined-has }

pub returns-clause-copied : goal.returns-clause-copied
returns-clause-copied c a ls lists = copying-end _ _ _ _ _ _ _ (omega arith) c.loop-i.invariant.copying a ls lists.down lists.holds

pub returns-after-has-clause-copied : goal.returns-after-has-clause-copied
returns-after-has-clause-copied c a ls lists =
    copying-end _ _ _ _ _ _ _ (omega arith) (done (goal.at.returns-after-has-clause-copied c).Joined-has) a ls lists.down lists.holds
