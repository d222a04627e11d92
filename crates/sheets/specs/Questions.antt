-- Questions put to sheets, in order, and the refusal by the first "no".
use Rattle.std.specs.Prelude.{ℕ, List, [], ◌∷◌, Bool, true, false}

-- A refusal: the question's number and, for questions 1 to 6, the machine sheet that is refused: 1 the only or first, 2 the
-- second; otherwise 0. The number 0 is no question's: `none` refuses nothing.
pub record Refusal : Type 0 where
  pub number : ℕ
  pub sheet : ℕ

unfoldable pub none : Refusal
none = record { number = 0; sheet = 0 }

-- a question by its number and its sheet, with its answer
pub data Question : Type 0 where
  ask : ℕ → ℕ → Bool → Question

-- the first "no" refuses with its number
unfoldable pub first_no : List Question → Refusal
unfolding none
first_no [] = none
first_no (ask k i true ∷ qs) = first_no qs
first_no (ask k i false ∷ qs) = record { number = k; sheet = i }
