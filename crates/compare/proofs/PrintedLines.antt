-- What the program prints: for every input which line; `equal` exactly where the two sheets are accepted and equal; never a refusal by
-- question 22; the two files of compare.sh; and the marked case (a).
use Rattle.std.specs.Prelude.{Result, Ok, Err}
use mathlib.Core.Path.{◌≡◌, refl, sym, ap, ◌∙◌}
use mathlib.Core.Logic.{◌↔◌, by_cases}
use Prim.Native.Nat.{ℕ, ◌+◌, ◌%◌, ◌≤◌}
use native.Mathlib.Omega.{arith}
use native.Mathlib.Decide.{dec_le, ℕ_discrete}
use mathlib.Core.List.{List, ◌++◌}
use mathlib.Core.Bool.{true, false}
use lib.ListN.{length}
use Rattle.truth.specs.Passed.{M1, M2, Refusal, none as no_refusal, machine_questions, machine_refusal, nodes, signals, word}
use Rattle.truth.proofs.Passed.{signals-sized, machine-cases}
use Rattle.text.specs.Lines.{shown}
use Rattle.text.specs.declared.line.Line.{Line}
use Rattle.input.specs.Limits.{nodes_most, machines_bytes, rule_words}
use Rattle.input.specs.Bytes.{readable, words_of, bytes_of}
use Rattle.input.specs.Cut.{first_sheet, second_sheet}
use Rattle.input.specs.Lines.{refused_line}
use Rattle.input.specs.declared.refused.Refused.{Refused}
use Rattle.input.proofs.Passed.{first-has}
use Rattle.input.proofs.Cuts.{by-reply}
use Rattle.input.proofs.JoinedSheets.{joined-readable, joined-first, joined-second}
use Rattle.input.proofs.WorkedInput.{input-cases}
use Rattle.comparison.specs.Comparison as Comparison
use Rattle.comparison.specs.declared.compare.Answer.{Answer}
use Rattle.comparison.specs.declared.compare.Answer.TheVariants.{Equal, Unequal}
use Rattle.comparison.proofs.CompareTable.{by_first, by-second, by_last, by-signals, by-nodes, by-none, compared, refuses-nothing}
use Rattle.comparison.proofs.MarkedMachines as Machines
use Rattle.compare.specs.Program.{line_bytes, refusal, Compared, Printed}

-- ---- question 22

-- a refused machine sheet is refused by one of questions 1 to 6
one-to-six : (M : List ℕ) → (machine_refusal M ≡ 0 → ⊥) → machine_refusal M ≤ 6
unfolding machine_questions
one-to-six M refused = first-has (λ k i. k ≤ 6) (machine_questions 1 M) (omega arith) refused

module _ (M₁ M₂ : List ℕ) where
  -- the space is enough for two accepted sheets with few nodes together
  last-no : machine_refusal M₁ ≡ 0 → machine_refusal M₂ ≡ 0 → (refusal M₁ M₂).number ≡ 22 → ⊥
  unfolding refusal
  last-no ok₁ ok₂ e =
      let last = by_last M₁ M₂ rule_words 0 (sym ok₁) refl 0 (sym ok₂) refl in
      by_cases (ℕ_discrete (signals M₁) (signals M₂))
      (λ same. by_cases (dec_le (nodes M₁ + nodes M₂) nodes_most)
      (λ few. let most = (signals-sized M₁ ok₁).1 in omega (arith, (last 0 (by-none M₁ M₂ rule_words same few (omega arith))).0))
      (λ many. omega (arith, (last 21 (by-nodes M₁ M₂ rule_words same (omega arith))).0)))
      (λ other. omega (arith, (last 20 (by-signals M₁ M₂ rule_words other)).0))

  -- end result
  pub never-22 : (refusal M₁ M₂).number ≡ 22 → ⊥
  unfolding refusal
  never-22 e =
      by_cases (ℕ_discrete (machine_refusal M₁) 0)
      (λ ok₁. by_cases (ℕ_discrete (machine_refusal M₂) 0) (λ ok₂. last-no ok₁ ok₂ e)
      (λ n. let few = one-to-six M₂ n in omega (arith, (by-second M₁ M₂ rule_words 0 (sym ok₁) refl (machine_refusal M₂) refl n).0)))
      (λ n. let few = one-to-six M₁ n in omega (arith, (by_first M₁ M₂ rule_words (machine_refusal M₁) refl n).0))

-- ---- which answer

module _ (M₁ M₂ : List ℕ) where
  refused-line : (answer : Result Answer Refused) → Compared M₁ M₂ answer → 1 ≤ (refusal M₁ M₂).number
      → line_bytes answer ≡ refused_line (refusal M₁ M₂).number (refusal M₁ M₂).sheet
  unfolding line_bytes no_refusal
  refused-line (Err why) c some = ap (λ (r : Refusal). refused_line r.number r.sheet) c.asked
  refused-line (Ok Equal) c some = absurd (omega (arith, ap (λ (r : Refusal). r.number) c.asked))
  refused-line (Ok Unequal) c some = absurd (omega (arith, ap (λ (r : Refusal). r.number) c.asked))

  module _ (accepted : (refusal M₁ M₂).number ≡ 0) where
    equal-answer : (answer : Result Answer Refused) → Compared M₁ M₂ answer → Comparison.Equal M₁ M₂ → answer ≡ Ok Equal
    equal-answer (Err why) c same = absurd (omega (arith, ap (λ (r : Refusal). r.number) c.asked, c.refused why refl))
    equal-answer (Ok Equal) c same = refl
    equal-answer (Ok Unequal) c same = absurd (c.unequal refl same)

    unequal-answer : (answer : Result Answer Refused) → Compared M₁ M₂ answer → (Comparison.Equal M₁ M₂ → ⊥) → answer ≡ Ok Unequal
    unequal-answer (Err why) c other = absurd (omega (arith, ap (λ (r : Refusal). r.number) c.asked, c.refused why refl))
    unequal-answer (Ok Equal) c other = absurd (other (c.equal refl))
    unequal-answer (Ok Unequal) c other = refl

-- the line `equal` is that of no other answer
is-equal : (answer : Result Answer Refused) → line_bytes answer ≡ line_bytes (Ok Equal) → answer ≡ Ok Equal
unfolding line_bytes refused_line
is-equal (Err why) e = let z : ◌≡◌ {A = ℕ} 114 101 = cc in absurd (omega arith)
is-equal (Ok Equal) e = refl
is-equal (Ok Unequal) e = let z : ◌≡◌ {A = ℕ} 117 101 = cc in absurd (omega arith)

-- ---- which line

module _ (bytes : List ℕ) where
  abbrev first : List ℕ
  first = first_sheet (words_of bytes)

  abbrev second : List ℕ
  second = second_sheet (words_of bytes)

  -- for every input one line
  pub record Lines (line : Line) : Type 0 where
    pub unreadable : readable machines_bytes (length bytes) ≡ false → shown line ≡ refused_line 0 0
    pub refused : readable machines_bytes (length bytes) ≡ true → 1 ≤ (refusal first second).number
        → shown line ≡ refused_line (refusal first second).number (refusal first second).sheet
    pub equal : readable machines_bytes (length bytes) ≡ true → (refusal first second).number ≡ 0 → Comparison.Equal first second
        → shown line ≡ line_bytes (Ok Equal)
    pub unequal : readable machines_bytes (length bytes) ≡ true → (refusal first second).number ≡ 0 → (Comparison.Equal first second → ⊥)
        → shown line ≡ line_bytes (Ok Unequal)

  -- what `equal` says of the input
  pub record EqualSheets : Type 0 where
    pub taken : readable machines_bytes (length bytes) ≡ true
    pub one : machine_refusal first ≡ 0
    pub two : machine_refusal second ≡ 0
    pub same : signals first ≡ signals second
    pub few : nodes first + nodes second ≤ nodes_most
    pub equal : Comparison.Equal first second

  module _ (line : Line) (p : Printed bytes line) where
    said : shown line ≡ line_bytes p.answer
    said = p.held.shows

    -- end result
    pub which-line : Lines line
    unfolding line_bytes
    which-line = record {
      unreadable = λ e. said ∙ ap line_bytes (p.answered.refused e);
      refused = λ ok some. said ∙ refused-line first second p.answer (p.answered.answered ok) some;
      equal = λ ok none same. said ∙ ap line_bytes (equal-answer first second none p.answer (p.answered.answered ok) same);
      unequal = λ ok none other. said ∙ ap line_bytes (unequal-answer first second none p.answer (p.answered.answered ok) other);
    }

    equal-sheets : readable machines_bytes (length bytes) ≡ true → Compared first second p.answer → p.answer ≡ Ok Equal → EqualSheets
    unfolding refusal no_refusal
    equal-sheets ok c e =
        let none : 0 ≡ (refusal first second).number = ap (λ (r : Refusal). r.number) (rw e at c.asked) in
        let k = compared first second rule_words none in
        record { taken = ok; one = k.first; two = k.second; same = k.same; few = k.few; equal = c.equal e }

    says-equal : p.answer ≡ Ok Equal → EqualSheets
    says-equal e = by-reply p.answered (λ other r. let z : ◌≡◌ {A = ℕ} 0 1 = cc in absurd (omega arith)) (λ ok c. equal-sheets ok c e)

    equal-said : EqualSheets → shown line ≡ line_bytes (Ok Equal)
    unfolding refusal
    equal-said s =
        let most = (signals-sized first s.one).1 in
        let few = s.few in
        let none = refuses-nothing first second rule_words (record { first = s.one; second = s.two; same = s.same; few = s.few; enough = omega arith }) in
        which-line.equal s.taken none s.equal

    -- end result
    pub equal-exactly : (shown line ≡ line_bytes (Ok Equal)) ↔ EqualSheets
    equal-exactly = (λ e. says-equal (is-equal p.answer (sym said ∙ e)), equal-said)

-- ---- two files, each of them an accepted machine sheet, one after the other: the line of the answer to the two; end result

pub files-compared : (first second : List ℕ) → length first % 2 ≡ 0 → length second % 2 ≡ 0
    → machine_refusal (words_of first) ≡ 0 → machine_refusal (words_of second) ≡ 0
    → (line : Line) → Printed (first ++ second) line
    → (answer : Result Answer Refused) × Compared (words_of first) (words_of second) answer × (shown line ≡ line_bytes answer)
files-compared first second even₁ even₂ ok₁ ok₂ line p =
    let c = p.answered.answered (joined-readable first second even₁ even₂ ok₁ ok₂) in
    let one = joined-first first second even₁ even₂ ok₁ ok₂ in
    let two = joined-second first second even₁ even₂ ok₁ ok₂ in
    (p.answer, rw (one, two) at c, said (first ++ second) line p)

-- ---- the marked case (a): M1, M2 equal; the program prints exactly `equal`

pub case-a : (line : Line) → Printed (bytes_of (M1 ++ M2)) line → shown line ≡ line_bytes (Ok Equal)
unfolding bytes_of word
case-a line p =
    let one = input-cases.case-a-first in
    let two = input-cases.case-a-second in
    (equal-exactly (bytes_of (M1 ++ M2)) line p).1
    (record {
      taken = refl;
      one = rw one machine-cases.m1;
      two = rw two machine-cases.m2;
      same = rw (one, two) refl;
      few = rw (one, two) (omega arith);
      equal = rw (one, two) Machines.case-a;
    })
