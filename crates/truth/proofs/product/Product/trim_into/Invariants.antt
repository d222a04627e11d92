-- `trim_into` meets its contract. The invariant: the rows that were taken were looked at.
use Prim.Native.Nat.{◌-◌}
use Rattle.truth.specs.inner.Rows.{row_has}
use Rattle.truth.specs.inner.Trimmed.{Moved, OwingTo}
use Rattle.truth.proofs.rows.RowWalks.{Visited}
use Rattle.truth.proofs.product.Product.trim_into.Given as goal

abbrev pub invariant-loop-u : goal.invariant-loop-u
invariant-loop-u l = record {
  moved : Moved l.self.moves.now.allow l.self.next.now l.self.moves.now.count l.initial.pairs.kept l.initial.pairs.gone l.pairs.kept l.pairs.gone;
  owing : Visited (λ u. OwingTo l.self.moves.now.allow l.self.next.now l.self.moves.now.count l.p2 (row_has l.pre) l.pairs.kept l.pairs.gone (u - 1)) (row_has l.fn.from) (row_has l.u-iterator.left);
}
