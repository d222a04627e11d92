-- Lines that are true at the same nodes, at the others, or at the nodes before those of a line, and how these follow from each other.
use mathlib.Core.Path.{◌≡◌}
use mathlib.Core.Logic.Iff
use mathlib.Core.Logic.{◌⊎◌, inl, inr, ◌↔◌}
use Prim.Native.Nat.{ℕ, ◌≤◌}
use native.Mathlib.Omega.{arith}
use mathlib.Core.List.{List}
use lib.ListN.{length}
use Rattle.truth.specs.Passed.{nodes, lifted, machine_refusal}
use Rattle.truth.proofs.Passed.{sum-iff, edge_stays}
use Rattle.truth.proofs.Decided.{truth-decided}
use Rattle.comparison.specs.inner.Lines.{Entry, neg, alt, next, sheet, entry, Downward}
use Rattle.comparison.specs.inner.Blocks.{TrueIn}
use Rattle.comparison.specs.inner.Needed.{Same, Opposite, NextOf, Always}
use Rattle.comparison.proofs.Lines.{lines_are}
use Rattle.comparison.proofs.LinesAccepted.{accepted}
use Rattle.comparison.proofs.TrueLines.{true-neg, true-alt, true-next}

-- ---- truths

pub same_refl : (ls : List Entry) (j : ℕ) → Same ls j ls j
unfolding Same
same_refl ls j M ok s lo hi = Iff.rfl

pub same_then : (ls ms ns : List Entry) (i j k : ℕ) → Same ls i ms j → Same ms j ns k → Same ls i ns k
unfolding Same
same_then ls ms ns i j k x y M ok s lo hi = Iff.trans (x M ok s lo hi) (y M ok s lo hi)

-- next of the same line
pub both-next : (ls : List Entry) (i j k : ℕ) → NextOf ls i k → NextOf ls j k → Same ls i ls j
unfolding NextOf Same
both-next ls i j k x y M ok s lo hi = Iff.trans (x M ok s lo hi) (Iff.symm (y M ok s lo hi))

module _ (a : ℕ) (ls : List Entry) (down : Downward a ls) where
  -- the truth of a line is decided
  known : (j : ℕ) → 1 ≤ j → j ≤ length ls → (M : List ℕ) → machine_refusal M ≡ 0 → (s : ℕ) → 1 ≤ s → s ≤ nodes M → Dec (TrueIn M ls j s)
  known j l h M ok s = truth-decided (lifted 6) M (sheet ls) ok (accepted a ls down (omega arith)) j s l (omega (arith, lines_are ls))

  turned : {X Y : Type 0} → Dec Y → X ↔ (Y → ⊥) → Y ↔ (X → ⊥)
  turned (yes y) e = (λ z x. e.0 x z, λ f. y)
  turned (no n) e = (λ y. absurd (n y), λ f. absurd (f (e.1 n)))

  pub opposite_turned : (j k : ℕ) → 1 ≤ k → k ≤ length ls → Opposite ls j k → Opposite ls k j
  unfolding Opposite
  opposite_turned j k l h o M ok s lo hi = turned (known k l h M ok s lo hi) (o M ok s lo hi)

  -- opposite to the same line
  pub both-opposite : (i j k : ℕ) → 1 ≤ k → k ≤ length ls → Opposite ls i j → Opposite ls j k → Same ls i ls k
  unfolding Opposite Same
  both-opposite i j k l h x y M ok s lo hi =
      Iff.trans (x M ok s lo hi) (Iff.symm (turned (known k l h M ok s lo hi) (y M ok s lo hi)))

  module _ (i : ℕ) (l : 1 ≤ i) (h : i ≤ length ls) where
    -- "not line j"
    pub opposite-line : (j t : ℕ) → entry ls i ≡ neg j → Same ls j ls t → Opposite ls i t
    unfolding Opposite Same
    opposite-line j t e x M ok s lo hi = Iff.trans (true-neg M ok a ls down i l h s lo hi j e) (Iff.not (x M ok s lo hi))

    -- "some next node has line j"
    pub next-of-line : (j t : ℕ) → entry ls i ≡ next j → Same ls j ls t → NextOf ls i t
    unfolding NextOf Same
    next-of-line j t e x M ok s lo hi =
        let at = edge_stays M ok s lo hi in
        Iff.trans (true-next M ok a ls down i l h s lo hi j e) (
          λ y. let b = at y.0 y.1 in (y.0, y.1, (x M ok y.0 b.0 b.1).0 y.2),
          λ y. let b = at y.0 y.1 in (y.0, y.1, (x M ok y.0 b.0 b.1).1 y.2),
        )

    -- "line j or line k"
    module _ (j k x y : ℕ) (e : entry ls i ≡ alt j k) (sx : Same ls j ls x) (sy : Same ls k ls y) where
      either-line : (M : List ℕ) → machine_refusal M ≡ 0 → (s : ℕ) → 1 ≤ s → s ≤ nodes M → TrueIn M ls i s ↔ (TrueIn M ls x s ⊎ TrueIn M ls y s)
      unfolding Same
      either-line M ok s lo hi = Iff.trans (true-alt M ok a ls down i l h s lo hi j k e) (sum-iff (sx M ok s lo hi) (sy M ok s lo hi))

      -- one of them is true nowhere
      module _ (t : ℕ) (always : Always ls t) where
        pub right-alone : Opposite ls t x → Same ls i ls y
        unfolding Same Opposite Always
        right-alone o M ok s lo hi =
            let f = either-line M ok s lo hi in
            (λ z. pick (f.0 z), λ z. f.1 (inr z))
          where
            pick : TrueIn M ls x s ⊎ TrueIn M ls y s → TrueIn M ls y s
            pick (inl z) = absurd ((o M ok s lo hi).0 (always M ok s lo hi) z)
            pick (inr z) = z

        pub left_alone : Opposite ls t y → Same ls i ls x
        unfolding Same Opposite Always
        left_alone o M ok s lo hi =
            let f = either-line M ok s lo hi in
            (λ z. pick (f.0 z), λ z. f.1 (inl z))
          where
            pick : TrueIn M ls x s ⊎ TrueIn M ls y s → TrueIn M ls x s
            pick (inl z) = z
            pick (inr z) = absurd ((o M ok s lo hi).0 (always M ok s lo hi) z)

      -- they are opposite
      pub either-always : 1 ≤ y → y ≤ length ls → Opposite ls x y → Always ls i
      unfolding Opposite Always
      either-always ly hy o M ok s lo hi = (either-line M ok s lo hi).1 (pick (known y ly hy M ok s lo hi))
        where
          pick : Dec (TrueIn M ls y s) → TrueIn M ls x s ⊎ TrueIn M ls y s
          pick (yes z) = inr z
          pick (no n) = inl ((o M ok s lo hi).1 n)
