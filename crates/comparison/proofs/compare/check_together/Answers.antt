-- `check_together` meets its contract: the first of the three questions that says no.
use Rattle.std.proofs.Common.{arith, sym, ◌∙◌}
use Rattle.truth.proofs.Passed.{answered}
use Rattle.comparison.proofs.CompareTable.{as-last, by-signals, by-nodes, by-space, none-last}
use Rattle.comparison.proofs.compare.check_together.Goals as goal

pub returns-then-signals : goal.returns-then-signals
returns-then-signals c =
    let a = c.args in
    answered
    (as-last a.m1.now a.m2.now a.space 20
    (by-signals a.m1.now a.m2.now a.space (λ e. c.if-signals.true (c.signals-signals.ensures ∙ e ∙ sym c.signals.ensures))))

pub returns-then-nodes-gt-NODES : goal.returns-then-nodes-gt-NODES
returns-then-nodes-gt-NODES c =
    let a = c.args in
    let same = sym c.signals-signals.ensures ∙ c.if-signals.false ∙ c.signals.ensures in
    let one = c.nodes.ensures in
    let two = c.nodes-2.ensures in
    answered (as-last a.m1.now a.m2.now a.space 21 (by-nodes a.m1.now a.m2.now a.space same (omega arith)))

pub returns-then-space-rule_space : goal.returns-then-space-rule_space
returns-then-space-rule_space c =
    let a = c.args in
    let same = sym c.signals-signals.ensures ∙ c.if-signals.false ∙ c.signals.ensures in
    let one = c.nodes.ensures in
    let two = c.nodes-2.ensures in
    answered (as-last a.m1.now a.m2.now a.space 22 (by-space a.m1.now a.m2.now a.space same (omega arith) (omega (arith, c.signals-signals.ensures))))

pub returns : goal.returns
returns c =
    let a = c.args in
    let same = sym c.signals-signals.ensures ∙ c.if-signals.false ∙ c.signals.ensures in
    let one = c.nodes.ensures in
    let two = c.nodes-2.ensures in
    answered (none-last a.m1.now a.m2.now a.space same (omega arith) (omega (arith, c.signals-signals.ensures)))
