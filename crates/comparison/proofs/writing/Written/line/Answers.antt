-- `line` meets its contract: the first word tells the kind.
use mathlib.Core.Path.{refl, sym, ap, ◌∙◌}
use mathlib.Core.Logic.{inl, inr}
use native.Mathlib.Omega.{arith}
use Prim.Native.Nat.{◌≤◌}
use Rattle.truth.specs.Passed.{some_path_operation}
use Rattle.truth.specs.Passed.{operation_number}
use Rattle.truth.proofs.Passed.{none-past}
use Rattle.comparison.proofs.TakenLines.{taken-signal, taken_not, taken-or, taken_next}
use Rattle.comparison.proofs.writing.Written.line.Goals as goal

pub returns-in_default : goal.returns-in_default
returns-in_default c =
    let a = c.args in
    λ ls h hi. taken_next a.self.now.words a.i _ (omega arith) refl ls h hi (omega (arith, none-past _ c.in_default.ensures.1))

pub returns-in-Signal : goal.returns-in-Signal
returns-in-Signal c =
    let a = c.args in
    λ ls h hi. taken-signal a.self.now.words a.i _ (omega arith) refl ls h hi (sym c.in-Ok.ensures ∙ ap operation_number c.in-Signal.is)

pub returns-in-Negation : goal.returns-in-Negation
returns-in-Negation c =
    let a = c.args in
    λ ls h hi. taken_not a.self.now.words a.i _ (omega arith) refl ls h hi (sym c.in-Ok.ensures ∙ ap operation_number c.in-Negation.is)

pub returns-in-Either : goal.returns-in-Either
returns-in-Either c =
    let a = c.args in
    λ ls h hi. taken-or a.self.now.words a.i _ (omega arith) refl ls h hi (sym c.in-Ok.ensures ∙ ap operation_number c.in-Either.is)

pub returns-in-SomePath : goal.returns-in-SomePath
returns-in-SomePath c =
    let a = c.args in
    let path : some_path_operation ≤ operation_number c.in-Ok.operation =
    elim c.in-SomePath.is [ inl e ↦ omega (arith, ap operation_number e) | inr e ↦ omega (arith, ap operation_number e) ] in
    λ ls h hi. taken_next a.self.now.words a.i _ (omega arith) refl ls h hi (omega (arith, path, c.in-Ok.ensures))
