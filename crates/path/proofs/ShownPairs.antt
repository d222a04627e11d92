-- The pairs of an answer fit the lent list.
use Rattle.std.specs.Prelude.{Option, Some, Result, Ok}
use mathlib.Core.Path.{◌≡◌, sym, ◌∙◌}
use Prim.Native.Nat.{ℕ, ◌≤◌}
use native.Mathlib.Omega.{arith}
use mathlib.Core.List.{List}
use lib.ListN.{length}
use Rattle.std.proofs.lemmas.List.{length-map}
use Rattle.truth.specs.PathAnswers.{Leaves}
use Rattle.truth.specs.PathPairs.{PairsAnswer}
use Rattle.truth.specs.declared.pairs.Pair.{Pair}
use Rattle.truth.specs.declared.path.Shown.{Shown}
use Rattle.input.specs.declared.refused.Refused.{Refused}
use Rattle.input.proofs.Cuts.{by-reply}
use Rattle.input.proofs.AskedCalls.{call-answered}
use Rattle.path.specs.Program.{Answered}

module _ (j s : ℕ) (before after : List Pair) (shown : Shown) where
  room : (M R : List ℕ) → PairsAnswer M R j s before after (Ok (Some shown)) → shown.length ≤ length after
  unfolding Leaves
  room M R h = let fits = h.leaves.1.fits in omega (arith, length-map after (λ (p : Pair). p.node))

  pub pairs-fit : (bytes : List ℕ) (answer : Result (Option Shown) Refused) → Answered bytes j s before after answer
      → {found : Option Shown} → answer ≡ Ok found → found ≡ Some shown → shown.length ≤ length after
  pairs-fit bytes answer h e some =
      by-reply h (λ other r. let z : ◌≡◌ {A = ℕ} 0 1 = cc in absurd (omega arith))
      (λ ok said. room _ _ (rw (call-answered said.call (sym said.told ∙ e), some) at said.answers))
