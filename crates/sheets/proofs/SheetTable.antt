-- Tables over sheets: the machine's questions, put to any sheet, with more questions after them; those of a machine and a rule; and the
-- table of a call over both, which asks questions 1 to 16 and then its own.
use mathlib.Core.Path.{◌≡◌, refl, sym, ap, ◌∙◌}
use Prim.Native.Nat.{ℕ, ◌≤◌}
use native.Mathlib.Omega.{arith}
use mathlib.Core.List.{List, [], ◌++◌}
use lib.Dec.{T}
use Rattle.sheets.specs.Words.{indicator}
use Rattle.sheets.specs.Questions.{Refusal, none as no_refusal, Question, first_no}
use Rattle.sheets.specs.Machine.{signals, machine_questions, machine_refusal}
use Rattle.sheets.specs.Rules.{Form, lent, record_questions, automata_questions, rule_questions, rule_refusal, over_signals}
use Rattle.sheets.specs.Sheets.{signal_questions, sheet_questions, sheet_of}
use Rattle.sheets.proofs.Tests.{passed}
use Rattle.sheets.proofs.Questions.{AllYes, none-refuses, all_yes, Every, every-both, every_map, first-has, Numbered, none_found, PutTo, nothing, also, same_number, first-table, later-table, none-of-both, asked-none, asked-yes, part-yes}

-- ---- a machine sheet's questions, put to sheet i, with the questions rs after them

pub machine-numbered : (i : ℕ) (M : List ℕ) → Numbered (machine_questions i M)
unfolding machine_questions
machine-numbered i M = omega arith

-- the number is the same for every i
machine-number : (i : ℕ) (M : List ℕ) → (first_no (machine_questions i M)).number ≡ machine_refusal M
unfolding machine_questions
machine-number i M = same_number {qs = machine_questions i M} {rs = machine_questions 1 M} (also (also (also (also (also (also nothing))))))

module _ (i : ℕ) (M : List ℕ) (rs : List Question) where
  machine-put : PutTo i (machine_questions i M)
  unfolding machine_questions
  machine-put = (refl, (refl, (refl, (refl, (refl, (refl, tt))))))

  -- the sheet is refused, or the rest of the table is asked
  pub machine-refused : (a : ℕ) → a ≡ machine_refusal M → (a ≡ 0 → ⊥) → (a ≡ (first_no (machine_questions i M ++ rs)).number) × (i ≡ (first_no (machine_questions i M ++ rs)).sheet)
  machine-refused a e n =
      let k = machine-number i M in
      let some : (first_no (machine_questions i M)).number ≡ 0 → ⊥ = λ z. n (e ∙ sym k ∙ z) in
      let t = first-table (machine_questions i M) rs some in
      (e ∙ sym k ∙ sym (ap (λ (r : Refusal). r.number) t), sym (ap (λ (r : Refusal). r.sheet) t ∙ first-has (λ k j. j ≡ i) (machine_questions i M) machine-put some))

  pub machine-passed : machine_refusal M ≡ 0 → first_no (machine_questions i M ++ rs) ≡ first_no rs
  machine-passed e = later-table (machine_questions i M) rs (machine-numbered i M) (machine-number i M ∙ e)

  -- where no question refuses, the sheet is accepted, and the rest refuses nothing
  pub machine-none : (first_no (machine_questions i M ++ rs)).number ≡ 0 → (machine_refusal M ≡ 0) × ((first_no rs).number ≡ 0)
  machine-none e =
      let h = none-of-both (machine_questions i M) rs (machine-numbered i M) e in
      (sym (machine-number i M) ∙ h.0, h.1)

-- ---- a rule sheet's questions

pub records-numbered : (F : Form) (R : List ℕ) → Numbered (record_questions F R)
unfolding record_questions
records-numbered F R = omega arith

pub rules-numbered : (F : Form) (R : List ℕ) → Numbered (rule_questions F R)
unfolding rule_questions record_questions automata_questions
rules-numbered F R = omega arith

-- ---- both sheets

-- a machine and a rule sheet that are accepted together
pub record BothAccepted (M R : List ℕ) : Type 0 where
  pub machine : machine_refusal M ≡ 0
  pub rules : rule_refusal lent R ≡ 0
  pub over : T (over_signals lent (signals M) R)

-- every question is put to the sheet that its number gives
abbrev pub Sheeted : List Question → Type 0
Sheeted = Every (λ k i. (1 ≤ k) × (i ≡ sheet_of k))

module _ (M R : List ℕ) where
  sheets-sheeted : Sheeted (sheet_questions M R)
  unfolding sheet_questions machine_questions rule_questions record_questions automata_questions sheet_of indicator
  sheets-sheeted = omega arith

  pub sheets-numbered : Numbered (sheet_questions M R)
  sheets-numbered = every_map (λ k i. (1 ≤ k) × (i ≡ sheet_of k)) (λ k i. 1 ≤ k) (λ k i h. h.0) (sheet_questions M R) sheets-sheeted

  pub both-accepted : (first_no (sheet_questions M R)).number ≡ 0 → BothAccepted M R
  unfolding sheet_questions
  both-accepted e =
      let m = machine-none 1 M (rule_questions lent R ++ signal_questions M R) e in
      let r = none-of-both (rule_questions lent R) (signal_questions M R) (rules-numbered lent R) m.1 in
      record { machine = m.0; rules = r.0; over = (all_yes (signal_questions M R) r.1).0 }

  pub both-pass : BothAccepted M R → (first_no (sheet_questions M R)).number ≡ 0
  unfolding sheet_questions
  both-pass b =
      sym
      (part-yes (machine_questions 1 M) (rule_questions lent R ++ signal_questions M R) (sym b.machine) (machine-numbered 1 M) refl
      (part-yes (rule_questions lent R) (signal_questions M R) (sym b.rules) (rules-numbered lent R) refl
      (asked-yes 16 0 [] (sym (passed (over_signals lent (signals M) R) b.over)) refl asked-none)))

  -- ---- a call over both: questions 1 to 16, then its own

  module _ (own : List Question) where
    abbrev whole : Refusal
    whole = first_no (sheet_questions M R ++ own)

    -- where no question refuses, both sheets are accepted, and the call's own questions say yes
    pub call-accepted : 0 ≡ whole.number → BothAccepted M R × AllYes own
    call-accepted e =
        let h = none-of-both (sheet_questions M R) own sheets-numbered (sym e) in
        (both-accepted h.0, all_yes own h.1)

    module _ (sheeted : Sheeted own) where
      whole-sheeted : Sheeted (sheet_questions M R ++ own)
      whole-sheeted = every-both (λ k i. (1 ≤ k) × (i ≡ sheet_of k)) (sheet_questions M R) own sheets-sheeted sheeted

      -- where the number is 0, nothing is refused
      pub call_none : 0 ≡ whole.number → no_refusal ≡ whole
      call_none e =
          let numbered = every_map (λ k i. (1 ≤ k) × (i ≡ sheet_of k)) (λ k i. 1 ≤ k) (λ k i h. h.0) (sheet_questions M R ++ own) whole-sheeted in
          sym (none_found (sheet_questions M R ++ own) numbered (sym e))

      -- and the other way round
      pub call_passes : BothAccepted M R → AllYes own → whole ≡ no_refusal
      call_passes b said =
          let late = later-table (sheet_questions M R) own sheets-numbered (both-pass b) in
          sym (call_none (sym (ap (λ (r : Refusal). r.number) late ∙ none-refuses own said)))
