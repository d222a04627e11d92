-- The first stage: one block of all the nodes, whose line is true everywhere.
use mathlib.Core.Path.{◌≡◌, subst, ap, ◌∙◌}
use Prim.Native.Nat.{ℕ, ◌+◌, ◌≤◌, ◌<◌}
use native.Mathlib.Omega.{arith}
use mathlib.Core.List.{List}
use mathlib.Core.Bool.{true, ◌&&◌}
use borrow.Author.Tests.{le-leb}
use lib.ListN.{length, get_or, set, length-set}
use lib.Seq.{get_or-set_same}
use lib.Dec.{T, leb, leb→le}
use Rattle.truth.specs.Sizes.{members_most}
use Rattle.truth.specs.Passed.{nodes, signals, machine_refusal, within, nodes_most}
use Rattle.truth.specs.inner.Rows.{held, rows_has}
use Rattle.truth.proofs.Passed.{and_left, passed, within_in, nodes-sized, signals-sized}
use Rattle.truth.proofs.tables.TableLaws.{stored-length, stored_here}
use Rattle.comparison.specs.inner.Sizes.{block_places, block_words}
use Rattle.comparison.specs.inner.Bounded.{Bounded}
use Rattle.comparison.specs.inner.Lines.{first_lines, HoldsLines}
use Rattle.comparison.specs.declared.writing.Written.{Written}
use Rattle.comparison.specs.inner.Tables.{OfNodes}
use Rattle.comparison.specs.inner.Stages.{Staged}
use Rattle.comparison.proofs.FirstLines.{first-length, first_entry, begins}

-- the nodes 1 to n in row 0
module _ (M before after : List ℕ) (low high n : ℕ) (size : length before ≡ block_words) (stored : after ≡ set (set before 0 low) 1 high)
    (row : (s : ℕ) → held low high s ≡ (leb s n && within 1 members_most s)) (same : n ≡ nodes M) where
  first-size : length after ≡ block_words
  first-size = ap length stored ∙ stored-length before 0 low high (omega arith) ∙ size

  first-row : (s : ℕ) → rows_has after 0 s ≡ (leb s (nodes M) && within 1 members_most s)
  first-row s = ap (λ (l : List ℕ). rows_has l 0 s) stored ∙ stored_here before 0 low high (omega arith) s ∙ row s ∙ rw same

  all-nodes : nodes M ≤ nodes_most → (s : ℕ) → 1 ≤ s → s ≤ nodes M → rows_has after 0 s ≡ true
  all-nodes few s lo hi = first-row s ∙ rw (le-leb s (nodes M) hi, passed (within 1 members_most s) (within_in 1 members_most s lo (omega arith)))

  only-nodes : (c : ℕ) → c < 1 → (s : ℕ) → T (rows_has after c s) → s ≤ nodes M
  only-nodes c h s t =
      let e : c ≡ 0 = omega arith in
      let t' : T (rows_has after 0 s) = rw e at t in
      leb→le s (nodes M) (and_left (leb s (nodes M)) (within 1 members_most s) (subst T (first-row s) t'))

pub begun : (M₁ M₂ : List ℕ) → machine_refusal M₁ ≡ 0 → machine_refusal M₂ ≡ 0 → Bounded M₁ M₂
    → (a n₁ n₂ : ℕ) → a ≡ signals M₁ → n₁ ≡ nodes M₁ → n₂ ≡ nodes M₂
    → (first₀ first second₀ second line : List ℕ) (lines : Written) (few : 1 ≤ block_places) (l₁ h₁ l₂ h₂ : ℕ) → length first₀ ≡ block_words → length second₀ ≡ block_words → length line ≡ block_places
    → first ≡ set (set first₀ 0 l₁) 1 h₁ → second ≡ set (set second₀ 0 l₂) 1 h₂
    → ((s : ℕ) → held l₁ h₁ s ≡ (leb s n₁ && within 1 members_most s)) → ((s : ℕ) → held l₂ h₂ s ≡ (leb s n₂ && within 1 members_most s)) → lines.count ≡ a + 2 → HoldsLines lines.words (first_lines a)
    → Staged M₁ M₂ 5 (record { rows = record { first = first; second = second }; line = set line 0 (a + 2); count = 1; lines = lines; few = few })
unfolding OfNodes
begun M₁ M₂ ok₁ ok₂ bounded a n₁ n₂ ea e₁ e₂ first₀ first second₀ second line lines few l₁ h₁ l₂ h₂ z₁ z₂ z s₁ s₂ r₁ r₂ n holds =
    let some = signals-sized M₁ ok₁ in
    let few₁ = nodes-sized M₁ ok₁ in
    let few₂ = nodes-sized M₂ ok₂ in
    let at : get_or (set line 0 (a + 2)) 0 0 ≡ signals M₁ + 2 = get_or-set_same line 0 (a + 2) 0 (omega arith) ∙ ap (λ (k : ℕ). k + 2) ea in
    let length-first = first-length (signals M₁) some.0 some.1 in
    record {
      accepted₁ = ok₁;
      accepted₂ = ok₂;
      bounded = bounded;
      size₁ = first-size M₁ first₀ first l₁ h₁ n₁ z₁ s₁ r₁ e₁;
      size₂ = first-size M₂ second₀ second l₂ h₂ n₂ z₂ s₂ r₂ e₂;
      size_line = simp length-set z;
      ls = first_lines (signals M₁);
      number = omega arith;
      holds = rw ea at holds;
      refinement = begins (signals M₁) some.0 some.1 M₁ M₂ ok₁ ok₂ (λ c. get_or (set line 0 (a + 2)) c 0) at (rows_has first) (rows_has second)
          (all-nodes M₁ first₀ first l₁ h₁ n₁ z₁ s₁ r₁ e₁ (omega arith)) (all-nodes M₂ second₀ second l₂ h₂ n₂ z₂ s₂ r₂ e₂ (omega arith));
      of_nodes = λ c h. (only-nodes M₁ first₀ first l₁ h₁ n₁ z₁ s₁ r₁ e₁ c h, only-nodes M₂ second₀ second l₂ h₂ n₂ z₂ s₂ r₂ e₂ c h);
      signal = first_entry (signals M₁);
      below = omega arith;
      short = omega arith;
    }
