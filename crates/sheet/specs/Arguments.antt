-- What the program's arguments ask for: `bytes`, `text`, `machine` or `rules`; or `machine text` or `rules text`.
use Rattle.std.specs.Prelude.{ℕ, List, [], ◌∷◌, Option, Some, None, Bool, true, false, cond, ◌&&◌, eqb}
use Rattle.sheet.specs.declared.answer.Sort.TheVariants.{Machine, Rules}
use Rattle.sheet.specs.declared.answer.Form.{Form}
use Rattle.sheet.specs.declared.answer.Form.TheVariants.{Bytes, Text}
use Rattle.sheet.specs.declared.asked.Asked.{Asked}
use Rattle.sheet.specs.declared.asked.Asked.TheVariants.{Turn, Check}

-- the words, in ASCII
abbrev pub bytes_word : List ℕ
bytes_word = 98 ∷ 121 ∷ 116 ∷ 101 ∷ 115 ∷ []

abbrev pub text_word : List ℕ
text_word = 116 ∷ 101 ∷ 120 ∷ 116 ∷ []

abbrev pub machine_word : List ℕ
machine_word = 109 ∷ 97 ∷ 99 ∷ 104 ∷ 105 ∷ 110 ∷ 101 ∷ []

abbrev pub rules_word : List ℕ
rules_word = 114 ∷ 117 ∷ 108 ∷ 101 ∷ 115 ∷ []

-- two words are the same
unfoldable pub same : List ℕ → List ℕ → Bool
same [] [] = true
same [] (y ∷ ys) = false
same (x ∷ xs) [] = false
same (x ∷ xs) (y ∷ ys) = eqb x y && same xs ys

-- a word that names the sheet to check, which is given in a form
abbrev pub check_of : Form → List ℕ → Option Asked
check_of form word =
    cond (same word machine_word) (Some (Check (record { sort = Machine; form = form })))
    (cond (same word rules_word) (Some (Check (record { sort = Rules; form = form }))) None)

-- one word: the form that a sheet is turned into, or the sheet to check, which is given in bytes
abbrev pub alone : List ℕ → Option Asked
alone word = cond (same word bytes_word) (Some (Turn Bytes)) (cond (same word text_word) (Some (Turn Text)) (check_of Bytes word))

-- the number of the program's words, its own name among them, and the two after that; none where they ask for nothing that there is
abbrev pub asked_of : ℕ → List ℕ → List ℕ → Option Asked
asked_of count first second = cond (eqb count 2) (alone first) (cond (eqb count 3 && same second text_word) (check_of Text first) None)
