-- `of` meets its contract: what is taken apart stays the parts of line k.
use Rattle.std.proofs.Common.{◌≡◌}
use Rattle.sentences.proofs.parts.Parts.of.Given as goal

abbrev pub invariant-loop-l : goal.invariant-loop-l
invariant-loop-l l = l.parts.line ≡ l.fn.k
