-- What a program answers to its input, whatever it answers to two sheets: each program says its own.
use Rattle.std.specs.Prelude.{◌≡◌, ℕ, List, true, false, length, Result}
use Rattle.std.specs.Borrow.{Bor, MutBor}
use Rattle.std.specs.Fn.{Once}
use Rattle.sheets.specs.declared.refusal.Refusal.{Refusal}
use Rattle.input.specs.Bytes.{readable, words_of}
use Rattle.input.specs.Cut.{first_sheet, second_sheet}

-- the answer to bytes: refused where they are odd in number or more than are taken, otherwise the answer to the two sheets
pub record Reply (most : ℕ) (bytes : List ℕ) (Refused : Type 0) (Answered : List ℕ → List ℕ → Type 0) : Type 0 where
  pub refused : readable most (length bytes) ≡ false → Refused
  pub answered : readable most (length bytes) ≡ true → Answered (first_sheet (words_of bytes)) (second_sheet (words_of bytes))

-- a call of f at two sheets and a lent list may answer so and leave the list so
pub record Gives {F S A : Type 0} (call : Once F (Bor (List ℕ) × (Bor (List ℕ) × (MutBor (List S) × Unit {0}))) (Result A Refusal × (MutBor (List S) × Unit {0})))
    (f : F) (M R : List ℕ) (before after : List S) (answer : Result A Refusal) : Type 0 where
  pub first : Bor (List ℕ)
  pub second : Bor (List ℕ)
  pub lent : MutBor (List S)
  pub left : MutBor (List S)
  pub shows-first : first.now ≡ M
  pub shows-second : second.now ≡ R
  pub shows-lent : lent.now ≡ before
  pub leaves : left.now ≡ after
  pub met : call.post f (first, (second, (lent, tt))) (answer, (left, tt))
