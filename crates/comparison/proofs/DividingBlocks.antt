-- Dividing: the loop that splits every block by two sets.
use mathlib.Core.Path.{◌≡◌, sym, subst}
use mathlib.Core.Logic.{◌≢◌, by_cases}
use Prim.Native.Nat.{ℕ, ◌+◌, ◌≤◌, ◌<◌}
use native.Mathlib.Decide.{ℕ_discrete, dec_lt}
use native.Mathlib.Omega.{arith}
use mathlib.Core.List.{List}
use mathlib.Core.Bool.{Bool}
use lib.Dec.{T}
use Rattle.comparison.specs.inner.Blocks.{Unsplit, Split}
use Rattle.comparison.specs.inner.Tables.{first_of, second_of, Room, SplitBlock, OfNodes}
use Rattle.comparison.specs.declared.blocks.Partition.{Partition}
use Rattle.comparison.specs.inner.Stages.{Ready, Finer, Kept, Divided}
use Rattle.comparison.proofs.FinerBlocks.{unsplit-part, unsplit-here, unsplit-added, finer-none, finer-then, finer-split, kept-others}
use Rattle.comparison.proofs.StagedSplits.{room, ready-again}

-- a block that was kept is not split, if it was not
unsplit-kept : (M₁ M₂ : List ℕ) (st st' : Partition) (d : ℕ) (x₁ x₂ : ℕ → Bool) → Kept st st' d → Unsplit M₁ M₂ (first_of st) (second_of st) d x₁ x₂
    → Unsplit M₁ M₂ (first_of st') (second_of st') d x₁ x₂
unsplit-kept M₁ M₂ st st' d x₁ x₂ k =
    unsplit-part M₁ M₂ (first_of st) (second_of st) (first_of st') (second_of st') d d (λ s t. subst T (k.first s) t) (λ s t. subst T (k.second s) t) x₁ x₂

-- st has become st', where the sets split no block before b, and none that was added
pub record Dividing (M₁ M₂ : List ℕ) (st st' : Partition) (p : ℕ) (x₁ x₂ : ℕ → Bool) (b : ℕ) : Type 0 where
  pub ready : Ready M₁ M₂ 5 st' p x₁ x₂
  pub finer : Finer st st'
  pub done : (c : ℕ) → c < b → Unsplit M₁ M₂ (first_of st') (second_of st') c x₁ x₂
  pub added : (c : ℕ) → st.count ≤ c → c < st'.count → Unsplit M₁ M₂ (first_of st') (second_of st') c x₁ x₂

module _ (M₁ M₂ : List ℕ) (st : Partition) (p : ℕ) (x₁ x₂ : ℕ → Bool) where
  pub dividing-none : Ready M₁ M₂ 5 st p x₁ x₂ → Dividing M₁ M₂ st st p x₁ x₂ 0
  dividing-none w = record { ready = w; finer = finer-none st; done = λ c h. absurd (omega arith); added = λ c l h. absurd (omega arith) }

  module _ (st₁ : Partition) (b : ℕ) (d : Dividing M₁ M₂ st st₁ p x₁ x₂ b) where
    -- block b is not split
    pub dividing-skip : Unsplit M₁ M₂ (first_of st₁) (second_of st₁) b x₁ x₂ → Dividing M₁ M₂ st st₁ p x₁ x₂ (b + 1)
    dividing-skip u = record {
      ready = d.ready;
      finer = d.finer;
      done = λ c l. by_cases (ℕ_discrete c b) (λ q. subst (λ (i : ℕ). Unsplit M₁ M₂ (first_of st₁) (second_of st₁) i x₁ x₂) (sym q) u) (λ f. d.done c (omega arith));
      added = d.added;
    }

    -- it is
    module _ (h : b < st.count) (tells : OfNodes M₁ M₂ (first_of st₁) (second_of st₁) b → Split M₁ M₂ (first_of st₁) (second_of st₁) b x₁ x₂) where
      in-range : b < st₁.count
      in-range = omega (arith, d.finer.more)

      divides : Split M₁ M₂ (first_of st₁) (second_of st₁) b x₁ x₂
      divides = tells (d.ready.staged.of_nodes b in-range)

      pub dividing-room : Room st₁ b
      dividing-room = room M₁ M₂ 5 st₁ p x₁ x₂ (omega arith) d.ready b in-range divides

      pub dividing-more : (st₂ : Partition) → SplitBlock st₁ st₂ b p x₁ x₂ → Dividing M₁ M₂ st st₂ p x₁ x₂ (b + 1)
      dividing-more st₂ cut =
          let q₁ = cut.first.parted in
          let q₂ = cut.second.parted in
          let kept : (c : ℕ) → c < st₁.count → c ≢ b → Unsplit M₁ M₂ (first_of st₁) (second_of st₁) c x₁ x₂ → Unsplit M₁ M₂ (first_of st₂) (second_of st₂) c x₁ x₂ =
          λ c l f. unsplit-kept M₁ M₂ st₁ st₂ c x₁ x₂ (kept-others st₁ st₂ b p x₁ x₂ in-range cut c l f) in
          let wide = d.finer.more in
          let more = cut.count in
          record {
            ready = ready-again M₁ M₂ 5 st₁ p x₁ x₂ (omega arith) d.ready b in-range divides st₂ cut;
            finer = finer-then st st₁ st₂ d.finer (finer-split st₁ st₂ b p x₁ x₂ in-range cut);
            done = λ c l. by_cases (ℕ_discrete c b)
                (λ q. subst (λ (i : ℕ). Unsplit M₁ M₂ (first_of st₂) (second_of st₂) i x₁ x₂) (sym q)
                (unsplit-here M₁ M₂ (first_of st₁) (second_of st₁) (first_of st₂) (second_of st₂) st₁.count b x₁ x₂ q₁ q₂))
                (λ f. kept c (omega arith) f (d.done c (omega arith)));
            added = λ c l g. by_cases (ℕ_discrete c st₁.count)
                (λ q. subst (λ (i : ℕ). Unsplit M₁ M₂ (first_of st₂) (second_of st₂) i x₁ x₂) (sym q)
                (unsplit-added M₁ M₂ (first_of st₁) (second_of st₁) (first_of st₂) (second_of st₂) st₁.count b x₁ x₂ q₁ q₂))
                (λ f. kept c (omega arith) (λ q. omega arith) (d.added c l (omega arith)));
          }

    pub dividing-end : b ≡ st.count → Divided M₁ M₂ st st₁ x₁ x₂
    dividing-end e = record {
      staged = d.ready.staged;
      finer = d.finer;
      done = λ c l. by_cases (dec_lt c b) (d.done c) (λ g. d.added c (omega arith) l);
    }
