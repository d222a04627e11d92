-- `put_word` meets its contract: the digits are put, and behind them the blank.
use mathlib.Core.Path.{◌∙◌}
use native.Mathlib.Omega.{arith}
use Rattle.text.proofs.Writing.{word-placed, word-most}
use Rattle.text.proofs.write.put_word.Goals as goal

pub returns-clause-text_after : goal.returns-clause-text_after
returns-clause-text_after c =
    let digits = c.as_bytes-digits.ensures.value ∙ c.format.ensures.text in
    let fits = word-most c.args.word c.args.blank (omega arith) in
    word-placed _ _ _ _ _ c.args.word c.args.blank (c.copy_from_slice.ensures.after ∙ digits) (omega arith) (omega (arith, digits)) (omega arith)
