-- What the path program answers to its input.
use Rattle.std.specs.Prelude.{◌≡◌, ℕ, List, Option, Result, Err}
use Rattle.truth.specs.PathPairs.{PairsAnswer}
use Rattle.truth.specs.declared.pairs.Pair.{Pair}
use Rattle.truth.specs.declared.path.Shown.{Shown}
use Rattle.input.specs.Limits.{sheets_bytes}
use Rattle.input.specs.Replies.{Reply}
use Rattle.input.specs.Refusals.{Asked}
use Rattle.input.specs.declared.refused.Refused.{Refused}
use Rattle.input.specs.declared.refused.Refused.TheVariants.{Bytes}

-- the answer to bytes, a machine sheet and after it a rule sheet, cut by the machine's header, for line j and node s: that of the path
-- call; more bytes than the longest two have, or an odd number of them, are refused
abbrev pub Answered : List ℕ → ℕ → ℕ → List Pair → List Pair → Result (Option Shown) Refused → Type 0
Answered bytes j s before after answer =
    Reply sheets_bytes bytes ((answer ≡ Err Bytes) × (after ≡ before)) (λ (M R : List ℕ). Asked (PairsAnswer M R j s before after) answer)
