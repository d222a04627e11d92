-- A turn: the loop that splits every block by the marks in which its nodes differ.
use mathlib.Core.Path.{◌≡◌, refl, sym, subst}
use mathlib.Core.Logic.{⊎_elim, by_cases}
use Prim.Native.Nat.{ℕ, ◌+◌, ◌-◌, ◌≤◌, ◌<◌}
use native.Mathlib.Decide.{ℕ_discrete}
use native.Mathlib.Omega.{arith}
use mathlib.Core.List.{List, [], ◌∷◌}
use mathlib.Core.Bool.{Bool}
use lib.Dec.{T}
use Rattle.truth.specs.Passed.{nodes, nodes_most}
use Rattle.truth.specs.inner.Rows.{leads_into}
use Rattle.truth.specs.inner.Marks.{marks_into, MarkedRow}
use Rattle.comparison.specs.inner.Sizes.{block_places}
use Rattle.comparison.specs.inner.Lines.{next, Pushed}
use Rattle.comparison.specs.inner.Blocks.{In, Meets, Unsplit, Split}
use Rattle.comparison.specs.inner.Refinement.{LinesIn}
use Rattle.comparison.specs.inner.Tables.{first_of, second_of, line_of, written, Room, SplitBlock}
use Rattle.comparison.specs.declared.blocks.Partition.{Partition}
use Rattle.comparison.specs.inner.Stages.{Staged, Ready, Finer}
use Rattle.comparison.specs.declared.writing.Written.{Written}
use Rattle.std.specs.Prelude.{Option, None, Some}
use Rattle.comparison.specs.inner.Signatures.{BlockMarks, TellsMark}
use Rattle.comparison.proofs.FinerBlocks.{unsplit-as, split-as, finer-none, finer-then, finer-split}
use Rattle.comparison.proofs.StagedSplits.{blocks-fit, room, ready-again}
use Rattle.comparison.proofs.Splitters.{ready-written}
use Rattle.comparison.proofs.MarkedBlocks.{marks-next, marks-high}
use Rattle.comparison.proofs.MarkedNodes.{marked-split}

four : 4 ≤ 4
four = omega arith

-- st has become st', whose blocks have their marks; and if it has no block more, no "some next" of a block splits a block before c
pub record Turning (M₁ M₂ : List ℕ) (st st' : Partition) (mark₁ mark₂ : List (Option ℕ)) (c : ℕ) : Type 0 where
  pub staged : Staged M₁ M₂ 5 st'
  pub finer : Finer st st'
  pub marked₁ : BlockMarks (first_of st') st'.count mark₁
  pub marked₂ : BlockMarks (second_of st') st'.count mark₂
  pub high : c ≤ st'.count
  pub done : st'.count ≡ st.count → (b d : ℕ) → b < c → d < st'.count
      → Unsplit M₁ M₂ (first_of st') (second_of st') b (leads_into M₁ (first_of st' d)) (leads_into M₂ (second_of st' d))

module _ (M₁ M₂ : List ℕ) (st : Partition) where
  pub turning-none : Staged M₁ M₂ 5 st → (mark₁ mark₂ : List (Option ℕ)) → BlockMarks (first_of st) st.count mark₁ → BlockMarks (second_of st) st.count mark₂
      → Turning M₁ M₂ st st mark₁ mark₂ 0
  turning-none w mark₁ mark₂ k₁ k₂ =
      record {
        staged = w;
        finer = finer-none st;
        marked₁ = k₁;
        marked₂ = k₂;
        high = omega arith;
        done = λ z b d l h. absurd (omega arith);
      }

  module _ (st' : Partition) (mark₁ mark₂ : List (Option ℕ)) (c : ℕ) (t : Turning M₁ M₂ st st' mark₁ mark₂ c) where
    module _ (h : c < st'.count) where
      high₁ : (s : ℕ) → 1 ≤ s → s ≤ nodes M₁ → (e : ℕ) → T (marks_into M₁ mark₁ s e) → (1 ≤ e) × (e ≤ st'.count)
      high₁ s lo hi =
          let r = t.staged.refinement.first in
          marks-high M₁ t.staged.accepted₁ (first_of st') st'.count r.covers r.once mark₁ t.marked₁ s lo hi

      high₂ : (s : ℕ) → 1 ≤ s → s ≤ nodes M₂ → (e : ℕ) → T (marks_into M₂ mark₂ s e) → (1 ≤ e) × (e ≤ st'.count)
      high₂ s lo hi =
          let r = t.staged.refinement.second in
          marks-high M₂ t.staged.accepted₂ (second_of st') st'.count r.covers r.once mark₂ t.marked₂ s lo hi

      same₁ : (d : ℕ) → d < st'.count → (s : ℕ) → 1 ≤ s → s ≤ nodes M₁ → marks_into M₁ mark₁ s (d + 1) ≡ leads_into M₁ (first_of st' d) s
      same₁ d k s lo hi =
          let r = t.staged.refinement.first in
          marks-next M₁ t.staged.accepted₁ (first_of st') st'.count r.covers r.once mark₁ t.marked₁ s lo hi d k (blocks-fit M₁ M₂ 5 st' t.staged)

      same₂ : (d : ℕ) → d < st'.count → (s : ℕ) → 1 ≤ s → s ≤ nodes M₂ → marks_into M₂ mark₂ s (d + 1) ≡ leads_into M₂ (second_of st' d) s
      same₂ d k s lo hi =
          let r = t.staged.refinement.second in
          marks-next M₂ t.staged.accepted₂ (second_of st') st'.count r.covers r.once mark₂ t.marked₂ s lo hi d k (blocks-fit M₁ M₂ 5 st' t.staged)

      -- block c is not split
      pub turning-on : TellsMark M₁ M₂ (first_of st') (second_of st') mark₁ mark₂ c None → Turning M₁ M₂ st st' mark₁ mark₂ (c + 1)
      turning-on tells = record {
        staged = t.staged;
        finer = t.finer;
        marked₁ = t.marked₁;
        marked₂ = t.marked₂;
        high = omega arith;
        done = λ q b d l k. by_cases (ℕ_discrete b c)
            (λ i. subst (λ (j : ℕ). Unsplit M₁ M₂ (first_of st') (second_of st') j (leads_into M₁ (first_of st' d)) (leads_into M₂ (second_of st' d))) (sym i)
            (unsplit-as M₁ M₂ (first_of st') (second_of st') c (λ s. marks_into M₁ mark₁ s (d + 1)) (λ t. marks_into M₂ mark₂ t (d + 1))
            (leads_into M₁ (first_of st' d)) (leads_into M₂ (second_of st' d)) (same₁ d k) (same₂ d k) (tells (d + 1))))
            (λ f. t.done q b d (omega arith) k);
      }

      -- it is split by the mark e
      module _ (e : ℕ) (tells : TellsMark M₁ M₂ (first_of st') (second_of st') mark₁ mark₂ c (Some e)) where
        by-mark : Split M₁ M₂ (first_of st') (second_of st') c (λ s. marks_into M₁ mark₁ s e) (λ t. marks_into M₂ mark₂ t e)
        by-mark = tells (t.staged.of_nodes c h)

        pub mark-in : (1 ≤ e) × (e ≤ st'.count) × (e ≤ nodes_most)
        unfolding Split Meets In
        mark-in =
            let fit = blocks-fit M₁ M₂ 5 st' t.staged in
            let g : (1 ≤ e) × (e ≤ st'.count) = ⊎_elim (λ m. high₁ m.0 m.1.0 m.1.1 e m.2) (λ m. high₂ m.0 m.1.0 m.1.1 e m.2) by-mark.0 in
            (g.0, g.1, omega arith)

        abbrev x₁ : ℕ → Bool
        x₁ = leads_into M₁ (first_of st' (e - 1))

        abbrev x₂ : ℕ → Bool
        x₂ = leads_into M₂ (second_of st' (e - 1))

        below : e - 1 < st'.count
        below = omega (arith, mark-in)

        at₁ : (s : ℕ) → 1 ≤ s → s ≤ nodes M₁ → marks_into M₁ mark₁ s e ≡ x₁ s
        at₁ s lo hi = let q : e - 1 + 1 ≡ e = omega (arith, mark-in) in rw q at (same₁ (e - 1) below s lo hi)

        at₂ : (s : ℕ) → 1 ≤ s → s ≤ nodes M₂ → marks_into M₂ mark₂ s e ≡ x₂ s
        at₂ s lo hi = let q : e - 1 + 1 ≡ e = omega (arith, mark-in) in rw q at (same₂ (e - 1) below s lo hi)

        divides : Split M₁ M₂ (first_of st') (second_of st') c x₁ x₂
        divides = split-as M₁ M₂ (first_of st') (second_of st') c (λ s. marks_into M₁ mark₁ s e) (λ t. marks_into M₂ mark₂ t e) x₁ x₂ at₁ at₂ by-mark

        module _ (more : Written) (few : st'.count ≤ block_places) (pushed : Pushed st'.lines more (next (line_of st' (e - 1)) ∷ [])) where
          ready : Ready M₁ M₂ 4 (written st' more few) more.count x₁ x₂
          unfolding LinesIn
          ready =
              let r = t.staged.refinement in
              ready-written M₁ M₂ st' t.staged (line_of st' (e - 1)) (r.lines (e - 1) below).0 (r.lines (e - 1) below).1 more few pushed
              (first_of st' (e - 1)) (second_of st' (e - 1)) x₁ x₂ (r.first.exact (e - 1) below) (r.second.exact (e - 1) below) (λ s lo hi. refl) (λ s lo hi. refl)

          pub turning-room : Room (written st' more few) c
          turning-room = room M₁ M₂ 4 (written st' more few) more.count x₁ x₂ four ready c h divides

          pub turning-more : (st'' : Partition) (mark₁' mark₂' : List (Option ℕ)) → SplitBlock (written st' more few) st'' c more.count x₁ x₂
              → MarkedRow (first_of st'' (st''.count - 1)) (st''.count - 1 + 1) mark₁ mark₁' → MarkedRow (second_of st'' (st''.count - 1)) (st''.count - 1 + 1) mark₂ mark₂'
              → Turning M₁ M₂ st st'' mark₁' mark₂' c
          turning-more st'' mark₁' mark₂' b r₁ r₂ =
              let now = written st' more few in
              let p = more.count in
              let again = ready-again M₁ M₂ 4 now p x₁ x₂ four ready c h divides st'' b in
              let same_blocks : Finer st now = record { more = t.finer.more; part = t.finer.part } in
              let one : st''.count ≡ st'.count + 1 = b.count in
              let wide = t.finer.more in
              let high = t.high in
              let fit = blocks-fit M₁ M₂ 5 st'' again.staged in
              let last : st''.count - 1 ≡ st'.count = omega arith in
              record {
                staged = again.staged;
                finer = finer-then st now st'' same_blocks (finer-split now st'' c p x₁ x₂ h b);
                marked₁ = subst (λ (k : ℕ). BlockMarks (first_of st'') k mark₁') (sym one)
                    (marked-split (first_of st') (first_of st'') st'.count c x₁ mark₁ mark₁' h b.first.parted t.marked₁
                    (rw last at r₁));
                marked₂ = subst (λ (k : ℕ). BlockMarks (second_of st'') k mark₂') (sym one)
                    (marked-split (second_of st') (second_of st'') st'.count c x₂ mark₂ mark₂' h b.second.parted t.marked₂
                    (rw last at r₂));
                high = omega arith;
                done = λ z. absurd (omega arith);
              }
