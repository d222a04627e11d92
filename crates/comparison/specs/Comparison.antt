-- When two machines are equal, and the rule that tells them apart.
use Rattle.std.specs.Prelude.{◌≡◌, ◌⊎◌, ℕ, ◌+◌, ◌*◌, ◌≤◌, List, [], ◌∷◌, ◌++◌, length, take, drop, T, leb, eqb}
use Rattle.truth.specs.Passed.{none, first_no, Question, ask, nodes, signals, lent, lifted, rule_refusal, over_signals, lines, nodes_most, next_states, next_transitions, next_head, lines_written, rule_space}
use Rattle.truth.specs.Truth.{Keeps}
use Rattle.truth.specs.Sizes.{row_words}
use Rattle.truth.specs.Labelling.{label_questions}

-- a rule of the logic over a signals, of whatever length and automaton size: its line records have L words
pub record Rule (a L : ℕ) (R : List ℕ) : Type 0 where
  pub accepted : rule_refusal (lifted L) R ≡ 0
  pub over : T (over_signals (lifted L) a R)

-- kept by both or by neither
unfoldable pub Agreed : List ℕ → List ℕ → ℕ → List ℕ → Type 0
unfolding Keeps lifted
Agreed M₁ M₂ L R = (Keeps (lifted L) M₁ R × Keeps (lifted L) M₂ R) ⊎ ((Keeps (lifted L) M₁ R → ⊥) × (Keeps (lifted L) M₂ R → ⊥))

-- equal: every rule of the logic over the signals is kept by both or by neither
unfoldable pub Equal : List ℕ → List ℕ → Type 0
unfolding Agreed
Equal M₁ M₂ = (L : ℕ) (R : List ℕ) → Rule (signals M₁) L R → Agreed M₁ M₂ L R

-- exactly one of the two keeps the rule on a lent sheet
unfoldable pub ToldApart : List ℕ → List ℕ → List ℕ → Type 0
unfolding Keeps
ToldApart M₁ M₂ R = (Keeps lent M₁ R × (Keeps lent M₂ R → ⊥)) ⊎ ((Keeps lent M₁ R → ⊥) × Keeps lent M₂ R)

-- the automaton Next: its state and edge records
unfoldable pub next_words : List ℕ
next_words =
    0 ∷ 1 ∷ 2 ∷ 0 ∷ 2 ∷ 3 ∷ 1 ∷ 4 ∷ 4 ∷ 0 ∷ 5 ∷ 0
    ∷ 2 ∷ 3 ∷ 0 ∷ 3 ∷ 2 ∷ 3 ∷ 4 ∷ 1 ∷ 0 ∷ 3 ∷ 3 ∷ 0 ∷ 4 ∷ 3 ∷ 0 ∷ []

-- the words before the lines of a rule with l lines: the header, the record of one automaton, and Next
abbrev pub rule_head : ℕ → List ℕ
rule_head l = 1 ∷ next_states ∷ next_transitions ∷ l ∷ 1 ∷ 1 ∷ next_words

-- questions 20 to 22, of a space of so many words: "Are both a equal?", "Do the nodes sum to at most 128?", "Has the rule space at least
-- 33 + 6 × (a + 7N) words?"
unfoldable pub compare_questions : List ℕ → List ℕ → ℕ → List Question
compare_questions M₁ M₂ space =
    ask 20 0 (eqb (signals M₁) (signals M₂)) ∷ ask 21 0 (leb (nodes M₁ + nodes M₂) nodes_most)
    ∷ ask 22 0 (leb (rule_space (signals M₁) (nodes M₁ + nodes M₂)) space) ∷ []

-- a rule sheet R stands at the head of the space, and the words past it are as before; it is over the signals of both machines, and
-- labelling accepts it with each of them, in any space that is large enough
pub record Written (M₁ M₂ R before after : List ℕ) : Type 0 where
  pub stands : after ≡ R ++ drop (length R) before
  pub head : take next_head R ≡ rule_head (lines R)
  pub short : lines R ≤ lines_written (signals M₁) (nodes M₁ + nodes M₂)
  pub accepted : rule_refusal lent R ≡ 0
  pub over₁ : T (over_signals lent (signals M₁) R)
  pub over₂ : T (over_signals lent (signals M₂) R)
  pub labels₁ : (space : ℕ) → row_words * lines R ≤ space → first_no (label_questions M₁ R space) ≡ none
  pub labels₂ : (space : ℕ) → row_words * lines R ≤ space → first_no (label_questions M₂ R space) ≡ none
  pub apart : ToldApart M₁ M₂ R
