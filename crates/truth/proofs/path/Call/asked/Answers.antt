-- `asked` meets its contract: 0 is the last line, any other number is itself.
use mathlib.Core.Path.{◌≡◌, refl}
use Prim.Native.Nat.{ℕ, zero, suc}
use mathlib.Core.List.{List}
use Rattle.sheets.specs.Rules.{lines}
use Rattle.truth.specs.Path.{asked}
use Rattle.truth.proofs.path.Call.asked.Goals as goal

last-asked : (R : List ℕ) (j n : ℕ) → j ≡ 0 → n ≡ lines R → n ≡ asked R j
unfolding asked
last-asked R j n z e = rw z e

line-asked : (R : List ℕ) (j : ℕ) → (j ≡ 0 → ⊥) → j ≡ asked R j
unfolding asked
line-asked R zero n = absurd (n refl)
line-asked R (suc j) n = refl

pub returns-then-self-eq0 : goal.returns-then-self-eq0
returns-then-self-eq0 c = last-asked _ _ _ c.if-self-eq0.true c.lines.ensures

pub returns-else-self-eq0 : goal.returns-else-self-eq0
returns-else-self-eq0 c = line-asked _ _ c.if-self-eq0.false
