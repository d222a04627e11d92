-- The truth of every line at every node is decided, and whether a machine keeps a rule: for sheets that no question refuses, of any form.
use mathlib.Core.Path.{◌≡◌}
use mathlib.Core.Logic.Dec
use mathlib.Core.Logic.Iff
use Prim.Native.Nat.{ℕ, zero, suc, ◌≤◌, ◌<◌}
use native.Mathlib.Omega.{arith}
use mathlib.Core.List.{List}
use mathlib.Core.Bool.{Bool, true, false}
use lib.Dec.{T}
use Rattle.sheets.specs.Structures.{Line, signal, negation, either, some_path, some_path_not, malformed}
use Rattle.sheets.specs.Machine.{nodes, kripke, machine_refusal}
use Rattle.sheets.specs.Rules.{Form, automata, automaton, line, lines, rule_refusal}
use Rattle.sheets.specs.Positioned.{positioned}
use Rattle.sheets.proofs.Tests.{dec-test, dec-fun, dec-sum}
use Rattle.sheets.proofs.Search.{dec-each}
use Rattle.sheets.proofs.AcceptedMachine.{edge_stays, start-node}
use Rattle.sheets.proofs.AcceptedRule.{some-line}
use Rattle.sheets.proofs.FormedLines.{Formed, formed, over-most}
use Rattle.sheets.proofs.PositionedStates.{positioned-sound, positioned-named}
use Rattle.sheets.specs.Format.{signals_most}
use Rattle.truth.specs.Truth.{Truths, SomePath, Means, TrueAt, Keeps}
use Rattle.truth.specs.inner.Product.{turned, good}
use Rattle.truth.proofs.Valuations.{valued}
use Rattle.truth.proofs.NamedPaths.{path-by-position}
use Rattle.truth.proofs.DecidedPaths.{Finite, path-decided}
use Rattle.truth.proofs.Recursion.{truth-recursion}

module _ (F : Form) (M R : List ℕ) (machine-ok : machine_refusal M ≡ 0) (rule-ok : rule_refusal F R ≡ 0) where
  -- ---- a line, where the lines above it are decided

  module _ (P : Truths) (j : ℕ) (d : (i : ℕ) → 1 ≤ i → i < j → (s : ℕ) → 1 ≤ s → s ≤ nodes M → Dec (P i s))
      (s : ℕ) (lo : 1 ≤ s) (hi : s ≤ nodes M) where
    path-line : (x : ℕ) (arg : ℕ → ℕ) (exchanged : Bool)
        → ((1 ≤ x) × (x ≤ automata R)) × ((i : ℕ) → i < (automaton R x).variables → (1 ≤ arg i) × (arg i < j))
        → Dec (SomePath (kripke M) (automaton R x) P arg (good exchanged (automaton R x)) s)
    path-line x arg exchanged f =
        let v = (positioned R x).variables in
        let fin : Finite (kripke M) (nodes M) v P arg = record {
          stays = λ s s' on. edge_stays M machine-ok s on.0 on.1 s';
          value = λ s on. valued P v arg s (λ i l.
              let above = f.1 i (rw (positioned-named F R rule-ok x f.0.0 f.0.1).variables l) in
              d (arg i) above.0 above.1 s on.0 on.1);
        } in
        Dec.of_iff (Iff.symm (path-by-position F R rule-ok x f.0.0 f.0.1 (kripke M) P arg exchanged s))
        (path-decided (positioned-sound F R rule-ok x f.0.0 f.0.1) fin exchanged s (lo, hi))

    line-decided : (l : Line) → Formed signals_most (automata R) (automaton R) j l → Dec (Means (kripke M) (automaton R) P l s)
    unfolding Formed Means turned
    line-decided (signal i) f = dec-test ((kripke M).signal i s)
    line-decided (negation i) f = Dec.not (d i f.0 f.1 s lo hi)
    line-decided (either i k) f = dec-sum (d i f.0.0 f.0.1 s lo hi) (d k f.1.0 f.1.1 s lo hi)
    line-decided (some_path x arg) f = path-line x arg false f
    line-decided (some_path_not x arg) f = path-line x arg true f
    line-decided malformed f = absurd f

  -- ---- every line

  decided : (f j : ℕ) → j ≤ f → 1 ≤ j → j ≤ lines R → (s : ℕ) → 1 ≤ s → s ≤ nodes M → Dec (TrueAt F M R j s)
  decided zero j le lo hi s a b = absurd (omega arith)
  decided (suc f) j le lo hi s a b =
      Dec.of_iff (Iff.symm (truth-recursion F M R rule-ok j s lo hi))
      (line-decided (TrueAt F M R) j (λ i l k. decided f i (omega arith) l (omega arith)) s a b (line F R j)
      (formed F R rule-ok signals_most (over-most F R rule-ok) j lo hi))

  pub truth-decided : (j s : ℕ) → 1 ≤ j → j ≤ lines R → 1 ≤ s → s ≤ nodes M → Dec (TrueAt F M R j s)
  truth-decided j s lo hi a b = decided j j (omega arith) lo hi s a b

  -- ---- the rule

  pub keeps-decided : Dec (Keeps F M R)
  unfolding Keeps
  keeps-decided =
      let P : ℕ → Type 0 = λ s. T ((kripke M).start s) → TrueAt F M R (lines R) s in
      Dec.of_iff (λ h s t. h s (start-node M s t).0 (start-node M s t).1 t, λ k s lo hi. k s)
      (dec-each P (nodes M) (λ s lo hi. dec-fun (dec-test ((kripke M).start s)) (truth-decided (lines R) s (some-line F R rule-ok) (omega arith) lo hi)))
