-- `trim_round` meets its contract. The invariant: where nothing was done, the rows of what is gone below k are empty.
use native.Mathlib.Omega.{arith}
use Rattle.truth.proofs.trimming.TrimRounds.{round-none, round-yes, round-no}
use Rattle.truth.proofs.product.Product.trim_round.Goals as goal
use Rattle.truth.proofs.product.Product.trim_round.Goals.{then-trim_from, else-trim_from}

pub loop-k-init : goal.loop-k-init
loop-k-init c = round-none

pub loop-k-preserved : goal.loop-k-preserved
loop-k-preserved c =
    let g = c.trim_from.ensures in
    elim c.if-trim_from.branch [
      | then-trim_from w ↦ rw w.changed-is (round-yes c.loop-k.invariant g.trimmed g.none w.if-trim_from.true)
      | else-trim_from w ↦ rw w.changed-is (round-no c.loop-k.invariant g.trimmed g.none w.if-trim_from.false)
    ]

pub returns : goal.returns
returns c = record { trimmed = c.loop-k.invariant.trimmed; none = λ y p l. c.loop-k.invariant.none y p (omega arith) }
