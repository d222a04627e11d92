-- A row walked node by node, with a time written at each: the nodes seen have it, and all else is as it was.
use mathlib.Core.Path.{◌≡◌}
use mathlib.Core.Logic.{◌⊎◌}
use Prim.Native.Nat.{ℕ, ◌≤◌}
use mathlib.Core.List.{List}
use mathlib.Core.Bool.{Bool, not}
use lib.ListN.{length}
use lib.Dec.{T}
use Rattle.truth.specs.Sizes.{members_most}
use Rattle.truth.specs.inner.Pairs.{time_of}

pub record Putting (f rest : ℕ → Bool) (p time : ℕ) (times times' : List ℕ) : Type 0 where
  pub size : length times' ≡ length times
  pub part : (s : ℕ) → T (rest s) → T (f s)
  pub timed : (s : ℕ) → T (f s) → T (rest s) ⊎ (time_of times' p s ≡ time)
  pub others : (q s : ℕ) → 1 ≤ s → s ≤ members_most → (q ≡ p → T (not (f s))) → time_of times' q s ≡ time_of times q s
