-- `set_masks` meets its contract. The invariants: the rows from the positions below p, and those from p to positions below k, are made, and every
-- row has nodes of the valuations' rows alone.
use mathlib.Core.Path.{◌≡◌}
use Rattle.truth.specs.Sizes.{cell}
use Rattle.truth.proofs.product.AllowedTables.{Built}
use Rattle.truth.proofs.product.Moves.set_masks.Given as goal

abbrev pub invariant-loop-p : goal.invariant-loop-p
invariant-loop-p l = record {
  count : l.self.count ≡ l.initial.self.count;
  built : Built l.masks l.table l.variables.count l.count (cell l.p 0) l.self.allow;
}

abbrev pub invariant-loop-k : goal.invariant-loop-k
invariant-loop-k l = record {
  count : l.self.count ≡ l.initial.self.count;
  built : Built l.masks l.table l.variables.count l.count (cell l.p l.k) l.self.allow;
}
