-- The splitters: a signal, and "some next" of a set by a line written for it. What they are ready for, and what they come to.
use mathlib.Core.Path.{◌≡◌, sym, subst, ◌∙◌}
use Prim.Native.Nat.{ℕ, ◌+◌, ◌≤◌}
use native.Mathlib.Omega.{arith}
use mathlib.Core.List.{List, [], ◌∷◌, ◌++◌}
use mathlib.Core.Bool.{Bool, ◌&&◌}
use borrow.Author.Tests.{le-leb}
use lib.ListN.{length, length-append}
use lib.Dec.{T, leb}
use Rattle.truth.specs.Sizes.{members_most}
use Rattle.truth.specs.Passed.{kripke, nodes, signals, within, nodes_most}
use Rattle.truth.specs.inner.Rows.{leads_into}
use Rattle.truth.proofs.Passed.{passed, within_in, nodes-sized}
use Rattle.comparison.specs.inner.Sizes.{block_places}
use Rattle.comparison.specs.inner.Lines.{Entry, next, Pushed}
use Rattle.comparison.specs.inner.Blocks.{Exact}
use Rattle.comparison.specs.inner.Tables.{first_of, second_of, line_of, written}
use Rattle.comparison.specs.declared.blocks.Partition.{Partition}
use Rattle.comparison.specs.inner.Stages.{Staged, Cut, Ready, Divided}
use Rattle.comparison.specs.declared.writing.Written.{Written}
use Rattle.comparison.proofs.AddedLines.{entry-above}
use Rattle.comparison.proofs.ExactLines.{exact-as, exact-sig, next_down, next-added}
use Rattle.comparison.proofs.Refinement.{grows}
use Rattle.truth.proofs.structure.TargetRows.{leads-into}
use Rattle.comparison.proofs.MarkedBlocks.{same_test}
use Rattle.comparison.proofs.FinerBlocks.{unsplit-as}

-- ---- the sets in rows

-- the nodes 1 to n that pass, in a row
abbrev pub passing : ℕ → (ℕ → Bool) → ℕ → Bool
passing n q s = leb s n && (within 1 members_most s && q s)

passing-node : (n : ℕ) (q : ℕ → Bool) (s : ℕ) → n ≤ nodes_most → 1 ≤ s → s ≤ n → passing n q s ≡ q s
passing-node n q s h lo hi = rw (le-leb s n hi, passed (within 1 members_most s) (within_in 1 members_most s lo (omega arith)))

-- the same sets are led into from the same nodes
leads-same : (M : List ℕ) (p q : ℕ → Bool) (s : ℕ) → ((t : ℕ) → p t ≡ q t) → leads_into M p s ≡ leads_into M q s
leads-same M p q s e =
    same_test (leads_into M p s) (leads_into M q s)
    (λ h. let x = (leads-into M p s).1 h in (leads-into M q s).0 (x.0, x.1, subst T (e x.0) x.2))
    (λ h. let x = (leads-into M q s).1 h in (leads-into M p s).0 (x.0, x.1, subst T (sym (e x.0)) x.2))

-- the nodes of one row with an edge into another, where the rows are blocks
pub block-leading : (M : List ℕ) (x row into m m' : ℕ → Bool) → ((s : ℕ) → x s ≡ (row s && leads_into M into s)) → ((s : ℕ) → row s ≡ m s) → ((t : ℕ) → into t ≡ m' t)
    → (s : ℕ) → x s ≡ (m s && leads_into M m' s)
block-leading M x row into m m' e r i s = e s ∙ rw (r s, leads-same M into m' s i)

module _ (M₁ M₂ : List ℕ) (st : Partition) (w : Staged M₁ M₂ 5 st) (y₁ y₂ x₁ x₂ : ℕ → Bool) (e₁ : (s : ℕ) → x₁ s ≡ passing (nodes M₁) y₁ s) (e₂ : (t : ℕ) → x₂ t ≡ passing (nodes M₂) y₂ t) where
  same₁ : (s : ℕ) → 1 ≤ s → s ≤ nodes M₁ → x₁ s ≡ y₁ s
  same₁ s lo hi = e₁ s ∙ passing-node (nodes M₁) y₁ s (nodes-sized M₁ w.accepted₁).1 lo hi

  same₂ : (t : ℕ) → 1 ≤ t → t ≤ nodes M₂ → x₂ t ≡ y₂ t
  same₂ t lo hi = e₂ t ∙ passing-node (nodes M₂) y₂ t (nodes-sized M₂ w.accepted₂).1 lo hi

  cut-rows : (ls : List Entry) (p : ℕ) → Cut M₁ M₂ ls p y₁ y₂ → Cut M₁ M₂ ls p x₁ x₂
  cut-rows ls p c = record {
    from = c.from;
    to = c.to;
    first = exact-as M₁ ls p y₁ x₁ (λ s lo hi. sym (same₁ s lo hi)) c.first;
    second = exact-as M₂ ls p y₂ x₂ (λ t lo hi. sym (same₂ t lo hi)) c.second;
  }

  pub divided-rows : (st' : Partition) → Divided M₁ M₂ st st' x₁ x₂ → Divided M₁ M₂ st st' y₁ y₂
  divided-rows st' d = record {
    staged = d.staged;
    finer = d.finer;
    done = λ c h. unsplit-as M₁ M₂ (first_of st') (second_of st') c x₁ x₂ y₁ y₂ same₁ same₂ (d.done c h);
  }

-- ---- signal i
pub signal-ready : (M₁ M₂ : List ℕ) (st : Partition) → Staged M₁ M₂ 5 st → (i : ℕ) → 1 ≤ i → i ≤ signals M₁ → (x₁ x₂ : ℕ → Bool)
    → ((s : ℕ) → x₁ s ≡ passing (nodes M₁) ((kripke M₁).signal i) s) → ((t : ℕ) → x₂ t ≡ passing (nodes M₂) ((kripke M₂).signal i) t)
    → Ready M₁ M₂ 5 st i x₁ x₂
signal-ready M₁ M₂ st w i lo hi x₁ x₂ e₁ e₂ =
    let number = w.number in
    let below = w.below in
    let most : i ≤ length w.ls = omega arith in
    let down = w.refinement.down in
    record {
      staged = w;
      cut = cut-rows M₁ M₂ st w ((kripke M₁).signal i) ((kripke M₂).signal i) x₁ x₂ e₁ e₂ w.ls i (record {
        from = lo;
        to = most;
        first = exact-sig M₁ w.accepted₁ (signals M₁) w.ls down i lo most i (w.signal i lo hi);
        second = exact-sig M₂ w.accepted₂ (signals M₁) w.ls down i lo most i (w.signal i lo hi);
      });
    }

-- ---- some next of the sets where line l is true
module _ (M₁ M₂ : List ℕ) (st : Partition) (w : Staged M₁ M₂ 5 st) (l : ℕ) (lo : 1 ≤ l) (hi : l ≤ length w.ls) (more' : Written)
    (few : st.count ≤ block_places) (pushed : Pushed st.lines more' (next l ∷ [])) where
  -- its line is written
  staged-written : Staged M₁ M₂ 4 (written st more' few)
  staged-written =
      let r = w.refinement in
      let more = next l ∷ [] in
      let one = pushed.count in
      let size = length-append w.ls more in
      let number = w.number in
      let below = w.below in
      let short = w.short in
      record {
        accepted₁ = w.accepted₁;
        accepted₂ = w.accepted₂;
        bounded = w.bounded;
        size₁ = w.size₁;
        size₂ = w.size₂;
        size_line = w.size_line;
        ls = w.ls ++ more;
        number = omega arith;
        holds = pushed.adds.adds w.ls number w.holds;
        refinement = grows (signals M₁) M₁ M₂ w.accepted₁ w.accepted₂ w.ls st.count (line_of st) (first_of st) (second_of st) r more
            (next_down (signals M₁) w.ls r.down l lo hi);
        of_nodes = w.of_nodes;
        signal = λ i a b. entry-above w.ls more i a (omega arith) ∙ w.signal i a b;
        below = omega arith;
        short = omega arith;
      }

  module _ (q₁ q₂ x₁ x₂ : ℕ → Bool) (e₁ : Exact M₁ w.ls l q₁) (e₂ : Exact M₂ w.ls l q₂)
      (same₁ : (s : ℕ) → 1 ≤ s → s ≤ nodes M₁ → x₁ s ≡ leads_into M₁ q₁ s) (same₂ : (t : ℕ) → 1 ≤ t → t ≤ nodes M₂ → x₂ t ≡ leads_into M₂ q₂ t) where
    pub ready-written : Ready M₁ M₂ 4 (written st more' few) more'.count x₁ x₂
    unfolding staged-written
    ready-written =
        let down = w.refinement.down in
        let ls' = w.ls ++ next l ∷ [] in
        let size = length-append w.ls (next l ∷ []) in
        let number = w.number in
        let one : more'.count ≡ st.lines.count + 1 = pushed.count in
        record {
          staged = staged-written;
          cut = record {
            from = omega arith;
            to = omega arith;
            first = exact-as M₁ ls' more'.count (leads_into M₁ q₁) x₁ (λ s a b. sym (same₁ s a b))
                (rw (number, ← one) at (next-added (signals M₁) w.ls down l lo hi M₁ w.accepted₁ q₁ e₁));
            second = exact-as M₂ ls' more'.count (leads_into M₂ q₂) x₂ (λ t a b. sym (same₂ t a b))
                (rw (number, ← one) at (next-added (signals M₁) w.ls down l lo hi M₂ w.accepted₂ q₂ e₂));
          };
        }
