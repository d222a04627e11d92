-- `line_over` meets its contract: a line of another operation has no signal number.
use mathlib.Core.Path.{◌≡◌, sym, ap, ◌∙◌}
use lib.Dec.{leb}
use Rattle.sheets.specs.Format.{operation_place, operand_place}
use Rattle.sheets.specs.Rules.{lent, line_word, line_of, line, signal_most}
use Rattle.sheets.proofs.DecodedLines.{other-most}
use Rattle.sheets.proofs.lines.line_over.Goals as goal

pub returns-then-word-number : goal.returns-then-word-number
unfolding line
returns-then-word-number c =
    let op : c.word.result ≡ line_word lent c.args.r.now c.args.j operation_place = cc in
    sym (other-most c.args.r.now c.args.j c.args.a _ (λ e. c.if-word-number.true (op ∙ e ∙ sym c.number.ensures)))

pub returns : goal.returns
unfolding line line_of signal_most
returns c =
    let op : c.word.result ≡ line_word lent c.args.r.now c.args.j operation_place = cc in
    let i : c.word-2.result ≡ line_word lent c.args.r.now c.args.j operand_place = cc in
    ap (λ k. leb k c.args.a) i ∙ ap (λ n. signal_most c.args.a (line_of lent c.args.r.now c.args.j n)) (sym c.number.ensures ∙ sym c.if-word-number.false ∙ op)
