-- Two machines whose nodes all have the one signal, each with a start node: one block of all the nodes is stable, so they are equal.
use mathlib.Core.Path.{◌≡◌}
use mathlib.Core.Logic.{inl}
use Prim.Native.Nat.{ℕ}
use native.Mathlib.Omega.{arith}
use mathlib.Core.List.{List}
use mathlib.Core.Bool.{true}
use lib.Dec.{T}
use Rattle.truth.specs.Passed.{kripke, nodes, signals, each, machine_refusal}
use Rattle.truth.specs.inner.Rows.{leads_into}
use Rattle.truth.proofs.Passed.{each_at, first_next, first_edge-leads}
use Rattle.truth.proofs.structure.TargetRows.{leads-into}
use Rattle.comparison.specs.Comparison.{Equal}
use Rattle.comparison.specs.inner.Blocks.{Members, In, HasStart, Covers, AllIn, Unsplit}
use Rattle.comparison.proofs.Partition.{keeps_same}
use Rattle.comparison.proofs.Outcome.{equal}

-- the block of all nodes
abbrev whole : Members
whole c s = true

module _ (M : List ℕ) (ok : machine_refusal M ≡ 0) where
  covered : Covers M whole 1
  unfolding Covers
  covered s lo hi = (0, omega arith, tt)

  -- every node has a next
  goes_on : (c d : ℕ) → AllIn M whole c (leads_into M (whole d))
  unfolding AllIn In
  goes_on c d s i = (leads-into M (whole d) s).0 (first_next M s, first_edge-leads M ok s i.0 i.1, tt)

  signalled : (c i : ℕ) → i ≡ 1 → T (each (nodes M) ((kripke M).signal 1)) → AllIn M whole c ((kripke M).signal i)
  unfolding AllIn In
  signalled c i e all s n = rw e (each_at (nodes M) ((kripke M).signal 1) all s n.0 n.1)

pub one_block : (M₁ M₂ : List ℕ) → machine_refusal M₁ ≡ 0 → machine_refusal M₂ ≡ 0 → signals M₁ ≡ 1 → T (each (nodes M₁) ((kripke M₁).signal 1))
    → T (each (nodes M₂) ((kripke M₂).signal 1)) → (s : ℕ) → T ((kripke M₁).start s) → (t : ℕ) → T ((kripke M₂).start t) → Equal M₁ M₂
unfolding Unsplit HasStart
one_block M₁ M₂ ok₁ ok₂ one all₁ all₂ s starts₁ t starts₂ =
    equal M₁ M₂ ok₁ ok₂
    (keeps_same (signals M₁) 1 M₁ M₂ whole whole ok₁ ok₂
    (record {
      covers₁ = covered M₁ ok₁;
      covers₂ = covered M₂ ok₂;
      signals = λ c i h lo hi. let e : i ≡ 1 = omega arith in inl (signalled M₁ ok₁ c i e all₁, signalled M₂ ok₂ c i e all₂);
      nexts = λ c d h l. inl (goes_on M₁ ok₁ c d, goes_on M₂ ok₂ c d);
    })
    (λ c h. (λ x. (t, starts₂, tt), λ x. (s, starts₁, tt))))
