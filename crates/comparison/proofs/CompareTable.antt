-- The questions of comparison, in the parts in which the code asks them: the first machine's, the second's, and those of both and the
-- space. Where no question refuses, both sheets are accepted, their signals agree, their nodes are few, and the space is enough.
use mathlib.Core.Path.{◌≡◌, refl, sym, ◌∙◌}
use Prim.Native.Nat.{ℕ, ◌+◌, ◌≤◌, ◌<◌}
use native.Mathlib.Omega.{arith}
use mathlib.Core.List.{List, ◌++◌}
use mathlib.Core.Bool.{true}
use borrow.Author.Tests.{le-leb, lt-leb, eq-eqb, ne_eqb}
use lib.Dec.{eqb, leb→le, eqb→eq}
use Rattle.truth.specs.Passed.{Refusal, none as no_refusal, Question, first_no, nodes, signals, machine_questions, machine_refusal, nodes_most, rule_space}
use Rattle.truth.proofs.Passed.{all_yes, asked-none, asked-yes, asked-no, none_found, PutTo, no-sheet, machine-refused, machine-passed, machine-none}
use Rattle.comparison.specs.Comparison.{compare_questions}
use Rattle.comparison.specs.CompareAnswers.{comparison_questions}

module _ (M₁ M₂ : List ℕ) (space : ℕ) where
  abbrev last_questions : List Question
  last_questions = compare_questions M₁ M₂ space

  abbrev later_questions : List Question
  later_questions = machine_questions 2 M₂ ++ last_questions

  abbrev asked : Refusal
  asked = first_no (comparison_questions M₁ M₂ space)

  last-put : PutTo 0 last_questions
  unfolding compare_questions
  last-put = (refl, (refl, (refl, tt)))

  pub by_first : (a : ℕ) → a ≡ machine_refusal M₁ → (a ≡ 0 → ⊥) → (a ≡ asked.number) × (1 ≡ asked.sheet)
  unfolding comparison_questions
  by_first a e n = machine-refused 1 M₁ later_questions a e n

  module _ (a : ℕ) (e : a ≡ machine_refusal M₁) (z : a ≡ 0) where
    after_first : asked ≡ first_no later_questions
    unfolding comparison_questions
    after_first = machine-passed 1 M₁ later_questions (sym e ∙ z)

    pub by-second : (b : ℕ) → b ≡ machine_refusal M₂ → (b ≡ 0 → ⊥) → (b ≡ asked.number) × (2 ≡ asked.sheet)
    by-second b f n = rw after_first (machine-refused 2 M₂ last_questions b f n)

    pub by_last : (b : ℕ) → b ≡ machine_refusal M₂ → b ≡ 0 → (k : ℕ) → k ≡ (first_no last_questions).number → (k ≡ asked.number) × (0 ≡ asked.sheet)
    by_last b f y k g = rw (after_first ∙ machine-passed 2 M₂ last_questions (sym f ∙ y)) (g, sym (no-sheet last_questions last-put))

  -- ---- the last questions

  abbrev room : ℕ
  room = rule_space (signals M₁) (nodes M₁ + nodes M₂)

  pub by-signals : (signals M₁ ≡ signals M₂ → ⊥) → 20 ≡ (first_no last_questions).number
  unfolding compare_questions
  by-signals n = search (asked-no, sym (ne_eqb (signals M₁) (signals M₂) n))

  module _ (same : signals M₁ ≡ signals M₂) where
    agree : true ≡ eqb (signals M₁) (signals M₂)
    agree = sym (eq-eqb (signals M₁) (signals M₂) same)

    pub by-nodes : nodes_most < nodes M₁ + nodes M₂ → 21 ≡ (first_no last_questions).number
    unfolding compare_questions
    by-nodes h = search (asked-yes, asked-no, agree, sym (lt-leb (nodes M₁ + nodes M₂) nodes_most h))

    pub by-space : nodes M₁ + nodes M₂ ≤ nodes_most → space < room → 22 ≡ (first_no last_questions).number
    unfolding compare_questions
    by-space h l = search (asked-yes, asked-no, agree, sym (le-leb (nodes M₁ + nodes M₂) nodes_most h), sym (lt-leb room space l))

    pub by-none : nodes M₁ + nodes M₂ ≤ nodes_most → room ≤ space → 0 ≡ (first_no last_questions).number
    unfolding compare_questions
    by-none h l = search (asked-none, asked-yes, agree, sym (le-leb (nodes M₁ + nodes M₂) nodes_most h), sym (le-leb room space l))

  -- they are put to no machine sheet
  pub as-last : (k : ℕ) → k ≡ (first_no last_questions).number → record { number = k; sheet = 0 } ≡ first_no last_questions
  as-last k e = let none = sym (no-sheet last_questions last-put) in λ i. record { number = e i; sheet = none i }

  -- nothing says no
  pub none-last : signals M₁ ≡ signals M₂ → nodes M₁ + nodes M₂ ≤ nodes_most → room ≤ space → no_refusal ≡ first_no last_questions
  unfolding no_refusal
  none-last same h l = as-last 0 (by-none same h l)

  -- ---- what it says where it refuses nothing

  pub record Compared : Type 0 where
    pub first : machine_refusal M₁ ≡ 0
    pub second : machine_refusal M₂ ≡ 0
    pub same : signals M₁ ≡ signals M₂
    pub few : nodes M₁ + nodes M₂ ≤ nodes_most
    pub enough : room ≤ space

  module _ (e : 0 ≡ asked.number) where
    pub none-refused : no_refusal ≡ asked
    unfolding comparison_questions machine_questions compare_questions
    none-refused = sym (none_found (comparison_questions M₁ M₂ space) (omega arith) (sym e))

    pub compared : Compared
    unfolding comparison_questions compare_questions
    compared =
        let one = machine-none 1 M₁ later_questions (sym e) in
        let two = machine-none 2 M₂ last_questions one.1 in
        let last = all_yes last_questions two.1 in
        record {
          first = one.0;
          second = two.0;
          same = eqb→eq (signals M₁) (signals M₂) last.0;
          few = leb→le (nodes M₁ + nodes M₂) nodes_most last.1.0;
          enough = leb→le room space last.1.1.0;
        }

  -- and the other way round
  pub refuses-nothing : Compared → asked.number ≡ 0
  refuses-nothing k = sym (by_last 0 (sym k.first) refl 0 (sym k.second) refl 0 (by-none k.same k.few k.enough)).0
