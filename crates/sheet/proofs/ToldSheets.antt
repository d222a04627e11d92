-- What is told of a sheet's bytes, question by question: `accepted` exactly where the bytes are readable and every question says yes, and
-- else `refused Q S` by the first that says no.
use Rattle.std.specs.Prelude.{Result, Ok, Err}
use mathlib.Core.Path.{◌≡◌, refl, sym, ap, ◌∙◌}
use mathlib.Core.Logic.{◌↔◌}
use Prim.Native.Nat.{ℕ, ◌≤◌}
use native.Mathlib.Omega.{arith}
use mathlib.Core.List.{List}
use mathlib.Core.Bool.{true, false, true≢false}
use lib.ListN.{length}
use Rattle.sheets.specs.Questions.{Refusal, none as no_refusal, Question, first_no}
use Rattle.sheets.specs.Machine.{machine_refusal}
use Rattle.sheets.specs.Rules.{lent, rule_refusal}
use Rattle.sheets.specs.CheckAnswers.{Answered}
use Rattle.sheets.specs.declared.refusal.Refusal as Refusals
use Rattle.text.specs.Lines.{shown}
use Rattle.input.specs.Limits.{sheets_bytes}
use Rattle.input.specs.Bytes.{readable, words_of}
use Rattle.input.specs.Lines.{refused_line}
use Rattle.input.specs.declared.refused.Refused.{Refused}
use Rattle.sheet.specs.declared.answer.Sort.{Sort}
use Rattle.sheet.specs.declared.answer.Sort.TheVariants.{Machine, Rules}
use Rattle.sheet.specs.declared.answer.Form.TheVariants.{Bytes}
use Rattle.sheet.specs.declared.answer.Told as Told·
use Rattle.sheet.specs.Program.{Answer, by_question, by_refusal, questions, CheckedBytes, unreadable, words, Checked, as_bytes, line_bytes, Told}

-- ---- the answer of a check

accepted-none : (qs : List Question) (check : Result (Unit {0}) Refusals.Refusal) → Answered qs check → by_question check ≡ Ok tt → (first_no qs).number ≡ 0
unfolding no_refusal
accepted-none qs (Ok u) a e = sym (ap (λ (r : Refusal). r.number) a.refusal)
accepted-none qs (Err r) a e = let z : ◌≡◌ {A = ℕ} 0 1 = cc in absurd (omega arith)

refused-first : (qs : List Question) (check : Result (Unit {0}) Refusals.Refusal) → Answered qs check → 1 ≤ (first_no qs).number
    → line_bytes (by_refusal (by_question check)) ≡ refused_line (first_no qs).number (first_no qs).sheet
unfolding line_bytes no_refusal
refused-first qs (Ok u) a some = absurd (omega (arith, ap (λ (r : Refusal). r.number) a.refusal))
refused-first qs (Err r) a some = rw (← a.refusal) refl

-- ---- its line

is-accepted : (check : Result (Unit {0}) Refused) → line_bytes (by_refusal check) ≡ line_bytes (Ok tt) → check ≡ Ok tt
unfolding line_bytes refused_line
is-accepted (Ok u) e = refl
is-accepted (Err refused) e = let z : ◌≡◌ {A = ℕ} 114 97 = cc in absurd (omega arith)

as-bytes : (sort : Sort) (bytes : List ℕ) (answer : Answer) → Checked sort Bytes bytes answer
    → (check : Result (Unit {0}) Refused) × (answer ≡ by_refusal check) × CheckedBytes sort bytes check
as-bytes sort bytes answer (as_bytes {check = check} c) = (check, refl, c)

module _ (sort : Sort) (bytes : List ℕ) where
  abbrev first : Refusal
  first = first_no (questions sort (words_of bytes))

  taken-accepted : (check : Result (Unit {0}) Refused) → CheckedBytes sort bytes check → check ≡ Ok tt
      → (readable sheets_bytes (length bytes) ≡ true) × (first.number ≡ 0)
  taken-accepted check (unreadable no-count) e = let z : ◌≡◌ {A = ℕ} 0 1 = cc in absurd (omega arith)
  taken-accepted check (words {check = asked} ok a) e = (ok, accepted-none (questions sort (words_of bytes)) asked a e)

  accepted-taken : (check : Result (Unit {0}) Refused) → CheckedBytes sort bytes check → readable sheets_bytes (length bytes) ≡ true
      → first.number ≡ 0 → check ≡ Ok tt
  accepted-taken check (unreadable no-count) ok z = absurd (true≢false (sym ok ∙ no-count))
  accepted-taken check (words {check = asked} ok' a) ok z = ap by_question (a.accepted z)

  refused-taken : (check : Result (Unit {0}) Refused) → CheckedBytes sort bytes check → readable sheets_bytes (length bytes) ≡ true
      → 1 ≤ first.number → line_bytes (by_refusal check) ≡ refused_line first.number first.sheet
  refused-taken check (unreadable no-count) ok some = absurd (true≢false (sym ok ∙ no-count))
  refused-taken check (words {check = asked} ok' a) ok some = refused-first (questions sort (words_of bytes)) asked a some

  refused-untaken : (check : Result (Unit {0}) Refused) → CheckedBytes sort bytes check → readable sheets_bytes (length bytes) ≡ false
      → line_bytes (by_refusal check) ≡ refused_line 0 0
  unfolding line_bytes
  refused-untaken check (unreadable no-count) other = refl
  refused-untaken check (words ok a) other = absurd (true≢false (sym ok ∙ other))

  module _ (told : Told·.Told) (h : Told (record { sort = sort; form = Bytes }) bytes told) where
    abbrev checked : (check : Result (Unit {0}) Refused) × (told.answer ≡ by_refusal check) × CheckedBytes sort bytes check
    checked = as-bytes sort bytes told.answer h.answered

    said : shown told.line ≡ line_bytes (by_refusal checked.0)
    said = h.held.shows ∙ ap line_bytes checked.1

    -- end result
    pub accepted-exactly : (shown told.line ≡ line_bytes (Ok tt)) ↔ ((readable sheets_bytes (length bytes) ≡ true) × (first.number ≡ 0))
    accepted-exactly = (
      λ e. taken-accepted checked.0 checked.2 (is-accepted checked.0 (sym said ∙ e)),
      λ z. said ∙ ap (λ c. line_bytes (by_refusal c)) (accepted-taken checked.0 checked.2 z.0 z.1),
    )

    -- end result
    pub refused-line : readable sheets_bytes (length bytes) ≡ true → 1 ≤ first.number → shown told.line ≡ refused_line first.number first.sheet
    refused-line ok some = said ∙ refused-taken checked.0 checked.2 ok some

    -- end result
    pub unreadable-line : readable sheets_bytes (length bytes) ≡ false → shown told.line ≡ refused_line 0 0
    unreadable-line other = said ∙ refused-untaken checked.0 checked.2 other

-- ---- of a machine sheet and of a rule sheet; end results

pub machine-accepted : (bytes : List ℕ) (told : Told·.Told) → Told (record { sort = Machine; form = Bytes }) bytes told
    → (shown told.line ≡ line_bytes (Ok tt)) ↔ ((readable sheets_bytes (length bytes) ≡ true) × (machine_refusal (words_of bytes) ≡ 0))
unfolding questions
machine-accepted bytes told h = accepted-exactly Machine bytes told h

pub rules-accepted : (bytes : List ℕ) (told : Told·.Told) → Told (record { sort = Rules; form = Bytes }) bytes told
    → (shown told.line ≡ line_bytes (Ok tt)) ↔ ((readable sheets_bytes (length bytes) ≡ true) × (rule_refusal lent (words_of bytes) ≡ 0))
unfolding questions
rules-accepted bytes told h = accepted-exactly Rules bytes told h
