-- The rule sheets of the marked cases (e) and (f) of document 01, word by word, and what is said of labelling them; the machines are
-- those of sheets' `Worked`.
use Rattle.std.specs.Prelude.{◌≡◌, ℕ, ◌*◌, ◌^◌, ◌≤◌, ◌<◌, List, [], ◌∷◌, Bool, length, T, Result, Ok}
use Rattle.sheets.specs.Words.{word}
use Rattle.sheets.specs.Machine.{signals, machine_refusal}
use Rattle.sheets.specs.Rules.{lent, lines, over_signals, rule_refusal}
use Rattle.truth.specs.Sizes.{row_word_bits, row_words, members_most}
use Rattle.truth.specs.Labelling.{row_bit}
use Rattle.truth.specs.LabelAnswers.{LabelAnswer}
use Rattle.truth.specs.declared.labelling.Labelled.{Labelled}
use Rattle.sheets.specs.declared.refusal.Refusal.{Refusal}

-- (e): Even, v = 1, under operation 3, over signal 1: line 1 is the signal, line 2 the path line
abbrev pub EvenSheet : List ℕ
EvenSheet =
    1 ∷ 3 ∷ 4 ∷ 2 ∷ 1 ∷ 1
    ∷ 1 ∷ 1 ∷ 2 ∷ 1 ∷ 3 ∷ 3 ∷ 0 ∷ 4 ∷ 0
    ∷ 2 ∷ 2 ∷ 2 ∷ 3 ∷ 1 ∷ 0 ∷ 1 ∷ 3 ∷ 0 ∷ 3 ∷ 3 ∷ 0
    ∷ 0 ∷ 1 ∷ 0 ∷ 0 ∷ 0 ∷ 0 ∷ 3 ∷ 1 ∷ 1 ∷ 0 ∷ 0 ∷ 0 ∷ []

-- (f): operation 3, v = 0, one state with the accepting word b, mask 1
abbrev pub OneState : ℕ → List ℕ
OneState b = 1 ∷ 1 ∷ 1 ∷ 1 ∷ 0 ∷ 1 ∷ b ∷ 1 ∷ 0 ∷ 1 ∷ 1 ∷ 0 ∷ 3 ∷ 1 ∷ 0 ∷ 0 ∷ 0 ∷ 0 ∷ []

-- The rule sheet R is accepted for the machine sheet M, and labelling answers so, in any space that is large enough and has words of a
-- row's bits: the row of line j has exactly the bits of the nodes where it holds.
pub record Labels (M R : List ℕ) (holds : ℕ → ℕ → Bool) (kept : Bool) (count share : ℕ) : Type 0 where
  pub machine : machine_refusal M ≡ 0
  pub rules : rule_refusal lent R ≡ 0
  pub over : T (over_signals lent (signals M) R)
  pub answers : (before after : List ℕ) (answer : Result Labelled Refusal) → row_words * lines R ≤ length before → ((i : ℕ) → word after i < 2 ^ row_word_bits)
      → LabelAnswer M R before after answer → answer ≡ Ok (record { kept = kept; count = count; percent = share })
  pub rows : (before after : List ℕ) (answer : Result Labelled Refusal) → row_words * lines R ≤ length before → LabelAnswer M R before after answer
      → (j s : ℕ) → 1 ≤ j → j ≤ lines R → 1 ≤ s → s ≤ members_most → row_bit after j s ≡ holds j s
