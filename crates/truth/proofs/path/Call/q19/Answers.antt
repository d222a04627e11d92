-- `q19` meets its contract: its test is that of the definition.
use mathlib.Core.Path.{◌≡◌, refl, ap}
use Prim.Native.Nat.{ℕ, ◌*◌}
use mathlib.Core.List.{List}
use lib.Dec.{leb}
use Rattle.sheets.specs.Format.{operand_place}
use Rattle.sheets.specs.Machine.{nodes}
use Rattle.sheets.specs.Rules.{lent, line_word}
use Rattle.sheets.specs.declared.lines.PathLine.{PathLine}
use Rattle.sheets.specs.Positioned.{state_count}
use Rattle.truth.specs.Path.{asked, q19}
use Rattle.truth.proofs.path.Call.q19.Goals as goal

room-test : (M R : List ℕ) (j room k x n t : ℕ) → k ≡ asked R j → x ≡ line_word lent R k operand_place → n ≡ nodes M → t ≡ state_count R x
    → leb (n * t) room ≡ q19 M R j room
unfolding q19
room-test M R j room k x n t ek ex en et = rw (← ek, ← ex, ← en, ← et) refl

pub returns : goal.returns
returns c =
    room-test _ _ _ _ _ _ _ _ c.asked.ensures (ap (λ (p : PathLine). p.automaton) c.path_line-p.ensures) c.nodes-n.ensures
    c.state_count-t.ensures
