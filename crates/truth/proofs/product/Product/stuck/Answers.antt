-- `stuck` meets its contract: its test may be called at the nodes of `look`, which are in range.
use Rattle.std.proofs.Common.{rules}
use Prim.Native.Nat.{◌≤◌}
use Rattle.truth.specs.Sizes.{members_most}
use Rattle.truth.proofs.rows.RowLaws.{held_in}
use Rattle.truth.proofs.product.Product.stuck.Goals as goal

pub filter-requires : goal.filter-requires
filter-requires c s t =
    let some : 1 ≤ s = (held_in _ _ s t).0 in
    let few : s ≤ members_most = (held_in _ _ s t).1 in
    search rules
