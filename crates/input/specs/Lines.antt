-- The line of a refusal. Document 01: "`refused Q S` (number, sheet)".
use Rattle.std.specs.Prelude.{ℕ, List, [], ◌∷◌, ◌++◌, decimal}

-- `refused`, a space, the question, a space, the sheet and a line end, in ASCII
unfoldable pub refused_line : ℕ → ℕ → List ℕ
refused_line question sheet =
    (114 ∷ 101 ∷ 102 ∷ 117 ∷ 115 ∷ 101 ∷ 100 ∷ 32 ∷ []) ++ (decimal question ++ (32 ∷ (decimal sheet ++ (10 ∷ []))))
