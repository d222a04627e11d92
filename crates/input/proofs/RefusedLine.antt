-- The line `refused Q S`, made of its parts.
use Rattle.std.specs.Prelude.{ℕ, ◌<◌, [], ◌∷◌, decimal}
use Rattle.std.proofs.Common.{arith, length-append}
use Rattle.std.proofs.lemmas.Fmt.{length-decimal-le}
use Rattle.text.specs.declared.line.Line.{Line}
use Rattle.text.specs.Lines.{Holds, Adds}
use Rattle.text.proofs.HeldLines.{adds_then, holds-added}
use Rattle.input.specs.Lines.{refused_line}

-- from its head: a number of 16 bits has at most five digits
pub refused-line : (head a b c line : Line) (q s : ℕ) → q < 65536 → s < 65536
    → Holds head (114 ∷ 101 ∷ 102 ∷ 117 ∷ 115 ∷ 101 ∷ 100 ∷ 32 ∷ []) → Adds head (decimal q) a → Adds a (32 ∷ []) b → Adds b (decimal s) c
    → Adds c (10 ∷ []) line → Holds line (refused_line q s)
unfolding refused_line
refused-line head a b c line q s small-q small-s h to-a to-b to-c to-line =
    let of-q = length-decimal-le 5 q (omega arith) (omega arith) (omega arith) in
    let of-s = length-decimal-le 5 s (omega arith) (omega arith) (omega arith) in
    let parts = adds_then head a line _ _ to-a (adds_then a b line _ _ to-b (adds_then b c line _ _ to-c to-line)) in
    holds-added head line (114 ∷ 101 ∷ 102 ∷ 117 ∷ 115 ∷ 101 ∷ 100 ∷ 32 ∷ []) _ h parts (simp length-append (omega arith))
