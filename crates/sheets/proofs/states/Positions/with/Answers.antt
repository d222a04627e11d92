-- `with` meets its contract: the bits of `set | (1 << i)`.
use mathlib.Core.Path.{ap, ◌∙◌}
use mathlib.Core.Bool.{◌&&◌, ◌||◌}
use Rattle.sheets.specs.Format.{word_bits}
use Rattle.sheets.specs.Words.{bit}
use Rattle.sheets.proofs.BitLaws.{bit-or, bit-power, one_shifted}
use Rattle.sheets.proofs.states.Positions.with.Goals as goal

pub returns : goal.returns
returns c k =
    let i = c.args.i in
    bit-or c.args.self.bits c.kept.result k
    ∙ ap (λ b. bit c.args.self.bits k || b) (c.kept.ensures k ∙ ap (λ b. c.args.yes && b) (rw (one_shifted word_bits i c.requires) (rw (bit-power i k))))
