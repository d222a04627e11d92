-- `trim_row` meets its contract: of the nodes that were looked at, those that stay have a step into what is left or gone.
use mathlib.Core.Path.{sym, ◌∙◌}
use Rattle.truth.specs.inner.Rows.{row_has}
use Rattle.truth.proofs.trimming.TrimMoves.{Looked, none-looked, row_moved, row-owing}
use Rattle.truth.proofs.product.Product.trim_row.Goals as goal
use Rattle.truth.proofs.product.Product.trim_row.Goals.{After-intersection-look}

-- what the two intersections are
looked : (c : After-intersection-look) → Looked c.args.self.now.moves.now.allow c.args.p
    c.args.p2 (row_has c.args.pre) (row_has c.intersection-look.result)
    c.args.pairs.now.kept
looked c =
    let may = c.load-may.ensures in
    let row = c.load-row.ensures in
    record { is = λ s. rw (c.intersection.ensures s, row.0, row.1, may.0, may.1) at (c.intersection-look.ensures s) }

pub returns-then-is_empty-clause-owing : goal.returns-then-is_empty-clause-owing
returns-then-is_empty-clause-owing c =
    let a = c.args in
    none-looked (looked (search)) a.self.now.next.now a.self.now.moves.now.count a.pairs.now.gone (sym c.if-is_empty.true ∙ c.is_empty.ensures)

pub returns : goal.returns
returns c =
    let look = looked (search) in
    let lost = c.stuck-lost.ensures in
    record { moved = row_moved look lost c.take_out.ensures; owing = row-owing look lost c.take_out.ensures }
