-- Settling: the loop over the signals, and the loop of turns by "some next" of the blocks.
use mathlib.Core.Path.{◌≡◌, sym, subst}
use mathlib.Core.Logic.{◌≢◌, by_cases}
use Prim.Native.Nat.{ℕ, ◌+◌, ◌-◌, ◌≤◌, ◌<◌}
use native.Mathlib.Decide.{ℕ_discrete}
use native.Mathlib.Omega.{arith}
use mathlib.Core.List.{List}
use Rattle.truth.specs.Passed.{kripke, signals, nodes_most}
use Rattle.comparison.specs.inner.Blocks.{Unsplit}
use Rattle.comparison.specs.inner.Tables.{first_of, second_of}
use Rattle.comparison.specs.declared.blocks.Partition.{Partition}
use Rattle.comparison.specs.inner.Stages.{Staged, Divided, Signalled, Settled}
use Rattle.comparison.specs.inner.Signatures.{Turned}
use Rattle.comparison.proofs.StagedSplits.{blocks-fit}
use Rattle.comparison.proofs.FinerBlocks.{unsplit-finer}

-- ---- the signals below i split no block

pub record SignalsBelow (M₁ M₂ : List ℕ) (st : Partition) (i : ℕ) : Type 0 where
  pub staged : Staged M₁ M₂ 5 st
  pub done : (c j : ℕ) → c < st.count → 1 ≤ j → j < i → Unsplit M₁ M₂ (first_of st) (second_of st) c ((kripke M₁).signal j) ((kripke M₂).signal j)

module _ (M₁ M₂ : List ℕ) (st : Partition) where
  pub signals-more : (st' : Partition) (i : ℕ) → SignalsBelow M₁ M₂ st i → Divided M₁ M₂ st st' ((kripke M₁).signal i) ((kripke M₂).signal i) → SignalsBelow M₁ M₂ st' (i + 1)
  signals-more st' i s d = record { staged = d.staged; done = done }
    where
      done : (c j : ℕ) → c < st'.count → 1 ≤ j → j < i + 1 → Unsplit M₁ M₂ (first_of st') (second_of st') c ((kripke M₁).signal j) ((kripke M₂).signal j)
      done c j h lo hi =
          by_cases (ℕ_discrete j i)
          (λ e. subst (λ (k : ℕ). Unsplit M₁ M₂ (first_of st') (second_of st') c ((kripke M₁).signal k) ((kripke M₂).signal k)) (sym e) (d.done c h))
          (λ f. unsplit-finer M₁ M₂ st st' ((kripke M₁).signal j) ((kripke M₂).signal j) d.finer (λ b l. s.done b j l lo (omega arith)) c h)

  pub signals-all : (i : ℕ) → signals M₁ < i → SignalsBelow M₁ M₂ st i → Signalled M₁ M₂ st
  signals-all i e s = record { staged = s.staged; signals-done = λ c j h lo hi. s.done c j h lo (omega arith) }

-- ---- turns

module _ (M₁ M₂ : List ℕ) (st st' : Partition) (t : Turned M₁ M₂ st st') where
  pub signalled-on : Signalled M₁ M₂ st → Signalled M₁ M₂ st'
  signalled-on s = record {
    staged = t.staged;
    signals-done = λ c i l lo hi.
        unsplit-finer M₁ M₂ st st' ((kripke M₁).signal i) ((kripke M₂).signal i) t.finer (λ b g. s.signals-done b i g lo hi) c l;
  }

  -- one that splits nothing is the last
  pub settled-end : Signalled M₁ M₂ st → st'.count ≡ st.count → Settled M₁ M₂ st'
  settled-end s e = record { signalled = signalled-on s; nexts-done = t.done e }

  -- another has fewer blocks that may still come
  pub turns-fewer : st'.count ≢ st.count → nodes_most - st'.count < nodes_most - st.count
  turns-fewer n = omega (arith, n, t.finer.more, blocks-fit M₁ M₂ 5 st' t.staged)
