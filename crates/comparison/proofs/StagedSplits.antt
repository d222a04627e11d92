-- A stage of refinement after a split of a block, and that there is room for one.
use mathlib.Core.Path.{◌≡◌, sym, subst, ◌∙◌}
use Prim.Native.Nat.{ℕ, suc, ◌+◌, ◌≤◌, ◌<◌}
use native.Mathlib.Omega.{arith}
use mathlib.Core.List.{List, ◌++◌}
use mathlib.Core.Bool.{Bool, not}
use lib.ListN.{length}
use Rattle.truth.specs.Passed.{signals, nodes_most, signals_most, lines_written}
use Rattle.comparison.specs.inner.Lines.{Entry, split, HoldsLines}
use Rattle.comparison.specs.inner.Blocks.{Members, Split}
use Rattle.comparison.specs.inner.Refinement.{LinesIn, Refinement, Parted, Lined}
use Rattle.comparison.specs.inner.Tables.{first_of, second_of, line_of, Room, SplitBlock, OfNodes}
use Rattle.comparison.specs.declared.blocks.Partition.{Partition}
use Rattle.comparison.specs.inner.Stages.{Staged, Ready}
use Rattle.comparison.proofs.AddedLines.{entry-above}
use Rattle.comparison.proofs.ExactLines.{exact-kept, split-down, split-length}
use Rattle.comparison.proofs.Refinement.{met, splits}
use Rattle.comparison.proofs.FewBlocks.{blocks-bounded}
use Rattle.comparison.proofs.Parts.{part_members, part_lines, parted, lined}
use Rattle.comparison.proofs.FinerBlocks.{finer-split}

pub blocks-fit : (M₁ M₂ : List ℕ) (spare : ℕ) (st : Partition) → Staged M₁ M₂ spare st → st.count ≤ nodes_most
blocks-fit M₁ M₂ spare st s =
    blocks-bounded M₁ M₂ s.accepted₁ s.accepted₂ s.bounded s.ls st.count (line_of st) (first_of st) (second_of st) s.refinement

pub lines_fit : (M₁ M₂ : List ℕ) (spare : ℕ) (st : Partition) → Staged M₁ M₂ spare st → st.lines.count + spare ≤ lines_written signals_most nodes_most
lines_fit M₁ M₂ spare st s =
    let blocks = blocks-fit M₁ M₂ spare st s in
    let short = s.short in
    let few = s.refinement.down.few in
    omega arith

module _ (M₁ M₂ : List ℕ) (spare : ℕ) (st : Partition) (p : ℕ) (x₁ x₂ : ℕ → Bool) (enough : 4 ≤ spare) (w : Ready M₁ M₂ spare st p x₁ x₂) (c : ℕ) (h : c < st.count)
    (divides : Split M₁ M₂ (first_of st) (second_of st) c x₁ x₂) where
  -- with the parts in other members and lines
  split-refinement : (line' : ℕ → ℕ) (m₁' m₂' : Members) → Lined st.count c (length w.staged.ls) (line_of st) line'
      → Parted st.count c x₁ (first_of st) m₁' → Parted st.count c x₂ (second_of st) m₂'
      → Refinement (signals M₁) M₁ M₂ (w.staged.ls ++ split (length w.staged.ls) (line_of st c) p) (suc st.count) line' m₁' m₂'
  unfolding Split
  split-refinement line' m₁' m₂' l q₁ q₂ =
      let s = w.staged in
      let cut = w.cut in
      splits (signals M₁) M₁ M₂ s.accepted₁ s.accepted₂ s.ls st.count (line_of st) (first_of st) (second_of st) s.refinement c p h cut.from cut.to
      x₁ x₂ cut.first cut.second line' m₁' m₂' l q₁ q₂
      (met M₁ M₂ (first_of st) (second_of st) m₁' m₂' c c x₁ x₂ q₁.here q₂.here divides.0)
      (met M₁ M₂ (first_of st) (second_of st) m₁' m₂' c st.count (λ s. not (x₁ s)) (λ t. not (x₂ t)) q₁.added q₂.added divides.1)

  -- so there are nodes for one block more
  pub room : Room st c
  room =
      let s = w.staged in
      let n = length s.ls in
      let m₁' = part_members st.count c x₁ (first_of st) in
      let m₂' = part_members st.count c x₂ (second_of st) in
      let line' = part_lines st.count c n (line_of st) in
      let r = split-refinement line' m₁' m₂' (lined st.count c n h (line_of st)) (parted st.count c h x₁ (first_of st)) (parted st.count c h x₂ (second_of st)) in
      let few = blocks-bounded M₁ M₂ s.accepted₁ s.accepted₂ s.bounded (s.ls ++ split n (line_of st c) p) (suc st.count) line' m₁' m₂' r in
      let short = s.short in
      let signals-few = s.refinement.down.few in
      record {
        block = h;
        count = omega arith;
        lines = omega arith;
        first = s.size₁;
        second = s.size₂;
        line = s.size_line;
        words = s.holds.size;
      }

  module _ (st' : Partition) (b : SplitBlock st st' c p x₁ x₂) where
    lines' : List Entry
    lines' = w.staged.ls ++ split (length w.staged.ls) (line_of st c) p

    size' : length lines' ≡ length w.staged.ls + 6
    unfolding lines' LinesIn
    size' =
        let s = w.staged in
        let r = s.refinement in
        split-length (signals M₁) s.ls r.down (line_of st c) p (r.lines c h).0 (r.lines c h).1 w.cut.from w.cut.to

    refinement' : Refinement (signals M₁) M₁ M₂ lines' st'.count (line_of st') (first_of st') (second_of st')
    unfolding lines'
    refinement' =
        let e : suc st.count ≡ st'.count = omega (arith, b.count) in
        subst (λ (k : ℕ). Refinement (signals M₁) M₁ M₂ lines' k (line_of st') (first_of st') (second_of st')) e
        (split-refinement (line_of st') (first_of st') (second_of st')
        (subst (λ (k : ℕ). Lined st.count c k (line_of st) (line_of st')) (sym w.staged.number) b.line.lined) b.first.parted b.second.parted)

    staged' : Staged M₁ M₂ 5 st'
    unfolding lines' OfNodes
    staged' =
        let s = w.staged in
        let size = size' in
        let more = b.count in
        let lines = b.lines in
        let number = s.number in
        let below = s.below in
        let short = s.short in
        record {
          accepted₁ = s.accepted₁;
          accepted₂ = s.accepted₂;
          bounded = s.bounded;
          size₁ = b.first.size;
          size₂ = b.second.size;
          size_line = b.line.size;
          ls = lines';
          number = omega arith;
          holds = subst (λ (k : ℕ). HoldsLines st'.lines.words (s.ls ++ split k (line_of st c) p)) (sym number) (b.words.adds s.ls number s.holds);
          refinement = refinement';
          of_nodes = λ d l.
              let o = (finer-split st st' c p x₁ x₂ h b).part d l in
              (λ s t. (w.staged.of_nodes o.0 o.1).0 s (o.2 s t), λ s t. (w.staged.of_nodes o.0 o.1).1 s (o.3 s t));
          signal = λ i lo hi. entry-above s.ls (split (length s.ls) (line_of st c) p) i lo (omega arith) ∙ s.signal i lo hi;
          below = omega arith;
          short = omega arith;
        }

    pub ready-again : Ready M₁ M₂ 5 st' p x₁ x₂
    unfolding staged' lines' LinesIn
    ready-again =
        let s = w.staged in
        let r = s.refinement in
        let cut = w.cut in
        let more = split (length s.ls) (line_of st c) p in
        let down = split-down (signals M₁) s.ls r.down (line_of st c) p (r.lines c h).0 (r.lines c h).1 cut.from cut.to in
        let size = size' in
        record {
          staged = staged';
          cut = record {
            from = cut.from;
            to = omega (arith, cut.to);
            first = exact-kept M₁ s.accepted₁ (signals M₁) s.ls more r.down down p cut.from cut.to x₁ cut.first;
            second = exact-kept M₂ s.accepted₂ (signals M₁) s.ls more r.down down p cut.from cut.to x₂ cut.second;
          };
        }
