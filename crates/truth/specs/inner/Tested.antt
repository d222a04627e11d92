-- What a test that is passed in answers of the numbers 1 to n.
use Rattle.std.specs.Prelude.{◌≡◌, ℕ, ◌≤◌, Bool}
use denote.Param.Members.{Shared}

-- a call at one of 1 to n answers p
abbrev pub Tests : {F : Type 0} → ℕ → Shared F (ℕ × Unit {0}) Bool → F → (ℕ → Bool) → Type 0
Tests n g f p = (s : ℕ) (r : Bool) → 1 ≤ s → s ≤ n → g.post f (s, tt) r → r ≡ p s
