-- Tables of questions: what a table that refuses nothing says, the first "no" of one table after another, and what code that asks in order
-- finds. Then a sheet that no question refuses, question by question: of the questions headed Machine and of those headed Rules.
use mathlib.Core.Path.{◌≡◌, refl, sym, ap, ◌∙◌}
use Prim.Native.Nat.{ℕ, zero, suc, ◌≤◌}
use native.Mathlib.Omega.{arith}
use mathlib.Core.List.{List, [], ◌∷◌, ◌++◌}
use mathlib.Core.Bool.{Bool, true, false, not}
use borrow.Author.Tests.{not-true, not-false}
use lib.Dec.{T}
use Rattle.sheets.specs.Questions.{Refusal, none as no_refusal, Question, ask, first_no}
use Rattle.sheets.specs.Format.{plain}
use Rattle.sheets.specs.Machine.{machine_refusal, machine_questions}
use Rattle.sheets.specs.MachineForms.{q1, q2, q3, q4, q5, q6}
use Rattle.sheets.specs.declared.format.NodeForm.{NodeForm}
use Rattle.sheets.specs.Rules.{Form, rule_refusal, rule_questions, q7, q8, q9, q10, q11, q12, q13, q14, q15}

-- every question is answered yes (a question's number is not 0)
abbrev pub AllYes : List Question → Type 0
AllYes [] = Unit {0}
AllYes (ask zero i true ∷ qs) = AllYes qs
AllYes (ask zero i false ∷ qs) = Unit {0}
AllYes (ask (suc k) i b ∷ qs) = T b × AllYes qs

pub none-refuses : (qs : List Question) → AllYes qs → (first_no qs).number ≡ 0
unfolding first_no
none-refuses [] h = refl
none-refuses (ask zero i true ∷ qs) h = none-refuses qs h
none-refuses (ask zero i false ∷ qs) h = refl
none-refuses (ask (suc k) i true ∷ qs) h = none-refuses qs h.1
none-refuses (ask (suc k) i false ∷ qs) h = absurd h.0

pub all_yes : (qs : List Question) → (first_no qs).number ≡ 0 → AllYes qs
unfolding first_no
all_yes [] e = tt
all_yes (ask zero i true ∷ qs) e = all_yes qs e
all_yes (ask zero i false ∷ qs) e = tt
all_yes (ask (suc k) i true ∷ qs) e = (tt, all_yes qs e)
all_yes (ask (suc k) i false ∷ qs) e = absurd (omega arith)

-- ---- what every question of a table has, by its number and its sheet

abbrev pub Every : (ℕ → ℕ → Type 0) → List Question → Type 0
Every P [] = Unit {0}
Every P (ask k i b ∷ qs) = P k i × Every P qs

pub every-both : (P : ℕ → ℕ → Type 0) (qs rs : List Question) → Every P qs → Every P rs → Every P (qs ++ rs)
every-both P [] rs h l = l
every-both P (ask k i b ∷ qs) rs h l = (h.0, every-both P qs rs h.1 l)

pub every_map : (P Q : ℕ → ℕ → Type 0) → ((k i : ℕ) → P k i → Q k i) → (qs : List Question) → Every P qs → Every Q qs
every_map P Q f [] h = tt
every_map P Q f (ask k i b ∷ qs) h = (f k i h.0, every_map P Q f qs h.1)

-- the first "no" has it
pub first-has : (P : ℕ → ℕ → Type 0) (qs : List Question) → Every P qs → ((first_no qs).number ≡ 0 → ⊥) → P (first_no qs).number (first_no qs).sheet
unfolding first_no no_refusal
first-has P [] h n = absurd (n refl)
first-has P (ask k i true ∷ qs) h n = first-has P qs h.1 n
first-has P (ask k i false ∷ qs) h n = h.0

-- a question's number is not 0, so that the number 0 says that no question refuses
abbrev pub Numbered : List Question → Type 0
Numbered = Every (λ k i. 1 ≤ k)

pub none_found : (qs : List Question) → Numbered qs → (first_no qs).number ≡ 0 → first_no qs ≡ no_refusal
unfolding first_no no_refusal
none_found [] h e = refl
none_found (ask k i true ∷ qs) h e = none_found qs h.1 e
none_found (ask k i false ∷ qs) h e = absurd (omega (arith, h.0))

-- every question is put to sheet i
abbrev pub PutTo : ℕ → List Question → Type 0
PutTo i = Every (λ k j. j ≡ i)

pub no-sheet : (qs : List Question) → PutTo 0 qs → (first_no qs).sheet ≡ 0
unfolding first_no no_refusal
no-sheet [] h = refl
no-sheet (ask k j true ∷ qs) h = no-sheet qs h.1
no-sheet (ask k j false ∷ qs) h = h.0

-- tables with the same numbers and answers, whatever sheets they are put to, refuse by the same number
pub data Alike : List Question → List Question → Type 0 where
  nothing : Alike [] []
  also : {k i j : ℕ} {b : Bool} {qs rs : List Question} → Alike qs rs → Alike (ask k i b ∷ qs) (ask k j b ∷ rs)

pub same_number : {qs rs : List Question} → Alike qs rs → (first_no qs).number ≡ (first_no rs).number
unfolding first_no
same_number nothing = refl
same_number (also {b = true} a) = same_number a
same_number (also {b = false} a) = refl

-- ---- the first "no" of one table after another: that of the first, and where the first refuses nothing, that of the second

pub first-table : (qs rs : List Question) → ((first_no qs).number ≡ 0 → ⊥) → first_no (qs ++ rs) ≡ first_no qs
unfolding first_no no_refusal
first-table [] rs n = absurd (n refl)
first-table (ask k i true ∷ qs) rs n = first-table qs rs n
first-table (ask k i false ∷ qs) rs n = refl

pub later-table : (qs rs : List Question) → Numbered qs → (first_no qs).number ≡ 0 → first_no (qs ++ rs) ≡ first_no rs
unfolding first_no no_refusal
later-table [] rs h e = refl
later-table (ask k i true ∷ qs) rs h e = later-table qs rs h.1 e
later-table (ask k i false ∷ qs) rs h e = absurd (omega (arith, h.0))

-- where both refuse nothing, each of them does
pub none-of-both : (qs rs : List Question) → Numbered qs → (first_no (qs ++ rs)).number ≡ 0 → ((first_no qs).number ≡ 0) × ((first_no rs).number ≡ 0)
unfolding first_no no_refusal
none-of-both [] rs h e = (refl, e)
none-of-both (ask k i true ∷ qs) rs h e = none-of-both qs rs h.1 e
none-of-both (ask k i false ∷ qs) rs h e = absurd (omega (arith, h.0))

-- two tables with the same first part refuse alike, if their rests do where that part refuses nothing
pub same_rest : (qs rs rs' : List Question) → ((first_no qs).number ≡ 0 → first_no rs ≡ first_no rs') → first_no (qs ++ rs) ≡ first_no (qs ++ rs')
unfolding first_no no_refusal
same_rest [] rs rs' h = h refl
same_rest (ask k i true ∷ qs) rs rs' h = same_rest qs rs rs' h
same_rest (ask k i false ∷ qs) rs rs' h = refl

-- ---- the number of the first "no", as code asks: the last questions decide where those before them say yes

pub asked-none : 0 ≡ (first_no []).number
unfolding first_no no_refusal
asked-none = refl

-- a question's function answered a: the code went on, or returned the question's number
pub asked-yes : (k i : ℕ) (qs : List Question) {n : ℕ} {a b : Bool} → a ≡ b → not a ≡ false → n ≡ (first_no qs).number → n ≡ (first_no (ask k i b ∷ qs)).number
unfolding first_no
asked-yes k i qs {a = a} e y f = rw (sym e ∙ not-false a y, first_no) f

pub asked-no : (i : ℕ) (qs : List Question) {k : ℕ} {a b : Bool} → a ≡ b → not a ≡ true → k ≡ (first_no (ask k i b ∷ qs)).number
unfolding first_no
asked-no i qs {a = a} e n = rw (sym e ∙ not-true a n, first_no) refl

-- a table's function returned a: the code went on, or returned a too
module _ (qs rs : List Question) {a : ℕ} (e : a ≡ (first_no qs).number) where
  pub part-yes : Numbered qs → a ≡ 0 → {n : ℕ} → n ≡ (first_no rs).number → n ≡ (first_no (qs ++ rs)).number
  part-yes h z f = f ∙ sym (ap (λ (r : Refusal). r.number) (later-table qs rs h (sym e ∙ z)))

  pub part_no : (a ≡ 0 → ⊥) → a ≡ (first_no (qs ++ rs)).number
  part_no n = e ∙ sym (ap (λ (r : Refusal). r.number) (first-table qs rs (λ z. n (e ∙ z))))

-- what closes a return of code that asks
pub ruleset asked = (asked-none, asked-yes, asked-no, part-yes, part_no)

-- ---- a machine sheet

pub record MachineAnswers (F : NodeForm) (M : List ℕ) : Type 0 where
  pub one : T (q1 M)
  pub two : T (q2 F M)
  pub three : T (q3 F M)
  pub four : T (q4 F M)
  pub five : T (q5 F M)
  pub six : T (q6 F M)

pub machine-accepted : (M : List ℕ) → MachineAnswers plain M → machine_refusal M ≡ 0
unfolding machine_questions
machine-accepted M a = none-refuses (machine_questions 1 M) (a.one, (a.two, (a.three, (a.four, (a.five, (a.six, tt))))))

pub machine-answers : (M : List ℕ) → machine_refusal M ≡ 0 → MachineAnswers plain M
unfolding machine_questions
machine-answers M e =
    let h = all_yes (machine_questions 1 M) e in
    record {
      one = h.0;
      two = h.1.0;
      three = h.1.1.0;
      four = h.1.1.1.0;
      five = h.1.1.1.1.0;
      six = h.1.1.1.1.1.0;
    }

-- ---- a rule sheet

pub record RuleAnswers (F : Form) (R : List ℕ) : Type 0 where
  pub seven : T (q7 F R)
  pub eight : T (q8 F R)
  pub nine : T (q9 F R)
  pub ten : T (q10 F R)
  pub eleven : T (q11 F R)
  pub twelve : T (q12 F R)
  pub thirteen : T (q13 F R)
  pub fourteen : T (q14 F R)
  pub fifteen : T (q15 F R)

pub rule-accepted : (F : Form) (R : List ℕ) → RuleAnswers F R → rule_refusal F R ≡ 0
unfolding rule_questions
rule-accepted F R a =
    none-refuses (rule_questions F R)
    (a.seven, (a.eight, (a.nine, (a.ten, (a.eleven, (a.twelve, (a.thirteen, (a.fourteen, (a.fifteen, tt)))))))))

pub rule-answers : (F : Form) (R : List ℕ) → rule_refusal F R ≡ 0 → RuleAnswers F R
unfolding rule_questions
rule-answers F R e =
    let h = all_yes (rule_questions F R) e in
    record {
      seven = h.0;
      eight = h.1.0;
      nine = h.1.1.0;
      ten = h.1.1.1.0;
      eleven = h.1.1.1.1.0;
      twelve = h.1.1.1.1.1.0;
      thirteen = h.1.1.1.1.1.1.0;
      fourteen = h.1.1.1.1.1.1.1.0;
      fifteen = h.1.1.1.1.1.1.1.1.0;
    }
