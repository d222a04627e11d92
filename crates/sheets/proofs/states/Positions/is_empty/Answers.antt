-- `is_empty` meets its contract: a word is not 0 where it has some bit.
use mathlib.Core.Path.{sym, ◌∙◌, ap}
use mathlib.Core.Bool.{not, not-not}
use lib.Dec.{eqb}
use Prim.Native.Nat.{◌^◌, ◌<◌}
use borrow.Author.Rules.{rules}
use Rattle.sheets.specs.Format.{word_bits}
use Rattle.sheets.proofs.Positions.{some-bit}
use Rattle.sheets.proofs.states.Positions.is_empty.Goals as goal

pub returns : goal.returns
returns c =
    let small : c.args.self.bits < 2 ^ word_bits = search rules in
    sym (not-not (eqb c.args.self.bits 0)) ∙ ap not (some-bit word_bits c.args.self.bits small)
