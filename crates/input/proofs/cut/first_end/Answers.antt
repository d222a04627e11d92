-- `first_end` meets its contract: one way out for each case.
use mathlib.Core.Path.{◌≡◌, sym, ◌∙◌}
use native.Mathlib.Omega.{arith}
use Rattle.input.specs.Cut.{header_end}
use Rattle.input.proofs.Cuts.{end-without-header, end-by-header, end-not-reached}
use Rattle.input.proofs.cut.first_end.Goals as goal

pub returns-then-not-q1 : goal.returns-then-not-q1
returns-then-not-q1 c =
    record { value = sym (end-without-header c.args.words.now (sym c.q1.ensures ∙ c.if-not-q1.true)); within = omega arith }

pub returns-then-reached : goal.returns-then-reached
returns-then-reached c =
    let words = c.args.words.now in
    let e : c.header_end-end.result ≡ header_end words = c.header_end-end.ensures in
    record { value = e ∙ sym (end-by-header words (sym c.q1.ensures ∙ c.if-not-q1.false) (omega arith)); within = omega arith }

pub returns-else-reached : goal.returns-else-reached
returns-else-reached c =
    let words = c.args.words.now in
    let e : c.header_end-end.result ≡ header_end words = c.header_end-end.ensures in
    record { value = sym (end-not-reached words (sym c.q1.ensures ∙ c.if-not-q1.false) (omega arith)); within = omega arith }
