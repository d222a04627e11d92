-- The lines of an accepted rule sheet are formulas: each refers only to the sheet's automata, to lines above it and to signals.
use mathlib.Core.Path.{◌≡◌}
use Prim.Native.Nat.{ℕ, zero, suc, ◌+◌, ◌-◌, ◌≤◌, ◌<◌}
use native.Mathlib.Omega.{arith}
use mathlib.Core.List.{List}
use mathlib.Core.Bool.{◌&&◌}
use lib.Dec.{T, leb→le, le→leb}
use Rattle.sheets.specs.Structures.{Automaton, Line, signal, negation, either, some_path, some_path_not, malformed}
use Rattle.sheets.specs.Format.{signals_most, operation_place, operand_place, argument_place}
use Rattle.sheets.specs.Words.{within}
use Rattle.sheets.specs.Rules.{Form, automata, automaton, variables, lines, line, line_of, line_word, line_fits, path_fits, refers_above, unused, rule_refusal, signal_most, over_signals}
use Rattle.sheets.proofs.Tests.{and_left, and_right}
use Rattle.sheets.proofs.Search.{within-at, each_at, each_in}
use Rattle.sheets.proofs.AcceptedRule.{line-fits}

-- line number j is a formula over a signals and k automata whose references are to the lines 1 to j - 1
unfoldable pub Formed : ℕ → ℕ → (ℕ → Automaton) → ℕ → Line → Type 0
Formed a k A j (signal i) = (1 ≤ i) × (i ≤ a)
Formed a k A j (negation i) = (1 ≤ i) × (i < j)
Formed a k A j (either i i') = ((1 ≤ i) × (i < j)) × ((1 ≤ i') × (i' < j))
Formed a k A j (some_path x arg) = ((1 ≤ x) × (x ≤ k)) × ((i : ℕ) → i < (A x).variables → (1 ≤ arg i) × (arg i < j))
Formed a k A j (some_path_not x arg) = ((1 ≤ x) × (x ≤ k)) × ((i : ℕ) → i < (A x).variables → (1 ≤ arg i) × (arg i < j))
Formed a k A j malformed = ⊥

module _ (F : Form) (R : List ℕ) (j : ℕ) where
  -- words c + 1 to c + n refer to lines above
  refers : (c n : ℕ) → T (refers_above F R j c n) → (i : ℕ) → 1 ≤ i → i ≤ n → (1 ≤ line_word F R j (c + i)) × (line_word F R j (c + i) < j)
  unfolding refers_above
  refers c n t i lo hi =
      let r = within-at 1 (j - 1) (line_word F R j (c + i)) (each_at n _ t i lo hi) in
      (r.0, omega arith)

  -- a path line: its automaton, and its arguments
  path-formed : (x : ℕ) → T (within 1 (automata R) x && refers_above F R j operand_place (variables R x) && unused F R j (argument_place (variables R x)))
      → ((1 ≤ x) × (x ≤ automata R)) × ((i : ℕ) → i < variables R x → (1 ≤ line_word F R j (argument_place i)) × (line_word F R j (argument_place i) < j))
  path-formed x t = (
    within-at 1 (automata R) x (search (and_left, t)),
    λ i l.
        let e : operand_place + suc i ≡ argument_place i = omega arith in
        rw e at (refers operand_place (variables R x) (search (and_left, and_right, t)) (suc i) (omega arith) l),
  )

  formed-by : (a op : ℕ) → T (line_fits F R j op) → T (signal_most a (line_of F R j op)) → Formed a (automata R) (automaton R) j (line_of F R j op)
  unfolding line_fits path_fits line_of signal_most Formed automaton
  formed-by a zero t o = ((within-at 1 signals_most (line_word F R j operand_place) (search (and_left, t))).0, leb→le (line_word F R j operand_place) a o)
  formed-by a (suc zero) t o = refers operation_place 1 (and_left (refers_above F R j operation_place 1) (unused F R j (operand_place + 1)) t) 1 (omega arith) (omega arith)
  formed-by a (suc (suc zero)) t o =
      let r = refers operation_place 2 (and_left (refers_above F R j operation_place 2) (unused F R j (operand_place + 2)) t) in
      (r 1 (omega arith) (omega arith), r 2 (omega arith) (omega arith))
  formed-by a (suc (suc (suc zero))) t o = path-formed (line_word F R j operand_place) t
  formed-by a (suc (suc (suc (suc zero)))) t o = path-formed (line_word F R j operand_place) t
  formed-by a (suc (suc (suc (suc (suc n))))) t o = t

  signal-most : (op : ℕ) → T (line_fits F R j op) → T (signal_most signals_most (line_of F R j op))
  unfolding line_fits path_fits line_of signal_most
  signal-most zero t = le→leb (line_word F R j operand_place) signals_most (within-at 1 signals_most (line_word F R j operand_place) (search (and_left, t))).1
  signal-most (suc zero) t = tt
  signal-most (suc (suc zero)) t = tt
  signal-most (suc (suc (suc zero))) t = tt
  signal-most (suc (suc (suc (suc zero)))) t = tt
  signal-most (suc (suc (suc (suc (suc n))))) t = tt

module _ (F : Form) (R : List ℕ) (accepted : rule_refusal F R ≡ 0) where
  -- over as many signals as the sheet is
  pub formed : (a : ℕ) → T (over_signals F a R) → (j : ℕ) → 1 ≤ j → j ≤ lines R → Formed a (automata R) (automaton R) j (line F R j)
  unfolding over_signals line
  formed a o j lo hi = formed-by F R j a (line_word F R j operation_place) (line-fits F R accepted j lo hi) (each_at (lines R) _ o j lo hi)

  -- every accepted sheet is over the most signals
  pub over-most : T (over_signals F signals_most R)
  unfolding over_signals line
  over-most = each_in (lines R) _ (λ j lo hi. signal-most F R j (line_word F R j operation_place) (line-fits F R accepted j lo hi))
