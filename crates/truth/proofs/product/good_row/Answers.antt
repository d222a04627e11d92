-- `good_row` meets its contract: a position is good where it accepts, or where the two are exchanged and it does not.
use mathlib.Core.Path.{◌≡◌, refl, sym, ◌∙◌}
use mathlib.Core.Bool.{Bool, true, false, not, beq, and-true, and-false}
use Rattle.truth.specs.inner.Rows.{row_has}
use Rattle.truth.specs.inner.Product.{turned}
use Rattle.truth.proofs.product.good_row.Goals as goal

turned-is : (a b : Bool) → turned b a ≡ not (beq a b)
unfolding turned
turned-is true true = refl
turned-is true false = refl
turned-is false true = refl
turned-is false false = refl

pub returns-then-accepts-exchanged : goal.returns-then-accepts-exchanged
returns-then-accepts-exchanged c s =
    let a = c.args in
    rw (turned-is a.accepts a.exchanged, c.if-accepts-exchanged.true) (c.empty.ensures s ∙ sym (and-false (row_has a.all s)))

pub returns-else-accepts-exchanged : goal.returns-else-accepts-exchanged
returns-else-accepts-exchanged c s =
    let a = c.args in
    rw (turned-is a.accepts a.exchanged, c.if-accepts-exchanged.false) (sym (and-true (row_has a.all s)))
