-- `marks_among` meets its contract: all marks are found, or the mark of each successor is.
use mathlib.Core.Path.{◌≡◌, sym, ◌∙◌}
use Prim.Native.Nat.{ℕ}
use mathlib.Core.Bool.{◌&&◌}
use Rattle.sheets.specs.Words.{within}
use Rattle.sheets.specs.Machine.{kripke}
use Rattle.truth.specs.Sizes.{members_most}
use Rattle.truth.specs.inner.Rows.{row_has}
use Rattle.truth.proofs.rows.RowLaws.{held_in, none_passes}
use Rattle.truth.proofs.marks.NotedMarks.{noted-mark, noted-all, noted-end}
use Rattle.truth.proofs.structure.Machine.marks_among.Goals as goal

pub returns-then-is_empty : goal.returns-then-is_empty
returns-then-is_empty c =
    let a = c.args in
    let d = c.difference.result in
    let same : c.into_iter-t-iterator.result.left ≡ c.successor_row-next.result = cc in
    let at : (t : ℕ) → row_has c.into_iter-t-iterator.result.left t ≡ (within 1 members_most t && (kripke a.self.now.words.now).edge a.s t) = rw same c.successor_row-next.ensures in
    let none = none_passes (row_has d) (held_in d.low d.high) (sym c.is_empty.ensures ∙ c.if-is_empty.true) in
    noted-all a.self.now.words.now a.of.now a.s _ at _ _ c.loop-t.invariant (row_has a.all) c.requires (λ e x. none e (rw (c.difference.ensures e) x))

pub loop-t-preserved-in-Some-of : goal.loop-t-preserved-in-Some-of
loop-t-preserved-in-Some-of c =
    let t = c.in-Some.ensures.steps in
    noted-mark _ _ _ _ _ c.in-Some.t c.loop-t.invariant t.first.is_in t.less c.in-Some-of.e _ c.in-Some-of.is c.with-out.ensures

pub returns : goal.returns
returns c =
    let a = c.args in
    let same : c.into_iter-t-iterator.result.left ≡ c.successor_row-next.result = cc in
    let at : (t : ℕ) → row_has c.into_iter-t-iterator.result.left t ≡ (within 1 members_most t && (kripke a.self.now.words.now).edge a.s t) = rw same c.successor_row-next.ensures in
    noted-end a.self.now.words.now a.of.now a.s _ at _ _ c.loop-t.invariant c.in-None.ensures.steps.0
