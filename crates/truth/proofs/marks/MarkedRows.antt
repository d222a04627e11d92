-- The nodes of a row that get a mark, one after the other.
use mathlib.Core.Path.{◌≡◌, refl}
use mathlib.Core.Logic.{◌⊎◌}
use Prim.Native.Nat.{ℕ, zero, suc}
use mathlib.Core.List.{List}
use mathlib.Core.Bool.{Bool}
use lib.ListN.{length, get_or, replicate}
use lib.Dec.{T}
use Rattle.std.specs.Prelude.{Option, None, Some}
use Rattle.truth.specs.Sizes.{node_places}

-- a table without marks
pub unmarked : (n s : ℕ) → ◌≡◌ {A = Option ℕ} (get_or (replicate n None) s None) None
unmarked zero s = refl
unmarked (suc n) zero = refl
unmarked (suc n) (suc s) = unmarked n s

-- those that are not left have the mark
pub record Marking (row : ℕ → Bool) (e : ℕ) (before now : List (Option ℕ)) (left : ℕ → Bool) : Type 0 where
  pub size : length now ≡ node_places
  pub fewer : (s : ℕ) → T (left s) → T (row s)
  pub here : (s : ℕ) → T (row s) → T (left s) ⊎ (get_or now s None ≡ Some e)
  pub others : (s : ℕ) → (T (row s) → ⊥) → get_or now s None ≡ get_or before s None
