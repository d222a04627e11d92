-- The truth of each written line at a node, by the truths of the lines that it refers to.
use mathlib.Core.Path.{◌≡◌, refl}
use mathlib.Core.Logic.Iff
use mathlib.Core.Logic.{◌⊎◌, ◌↔◌}
use Prim.Native.Nat.{ℕ, ◌≤◌, ◌<◌}
use native.Mathlib.Omega.{arith}
use mathlib.Core.List.{List}
use lib.ListN.{length}
use lib.Dec.{T}
use Rattle.truth.specs.Passed.{Kripke, kripke, nodes, automaton, line_word, lifted, machine_refusal, line_words, argument_place}
use Rattle.truth.specs.Truth.{Truths, Means}
use Rattle.truth.proofs.Passed.{sum-iff, edge_stays}
use Rattle.truth.proofs.Recursion.{truth-recursion}
use Rattle.truth.proofs.Decided.{truth-decided}
use Rattle.comparison.specs.inner.Lines.{Entry, sig, neg, alt, next, sheet, entry, Refers, Downward}
use Rattle.comparison.specs.inner.Blocks.{TrueIn}
use Rattle.comparison.proofs.Lines.{lines_are, decoded, line-is, argument_is}
use Rattle.comparison.proofs.LinesAccepted.{accepted}
use Rattle.comparison.proofs.NextStep.{next-step, is-next}

-- what a written line says, where `above` says the truth of the lines that it refers to
unfoldable pub Says : Kripke → Truths → Entry → ℕ → Type 0
Says K above (sig i) s = T (K.signal i s)
Says K above (neg j) s = above j s → ⊥
Says K above (alt i j) s = above i s ⊎ above j s
Says K above (next j) s = (t : ℕ) × T (K.edge s t) × above j t

-- lines that agree where they are referred to say the same
module _ (M : List ℕ) (ok : machine_refusal M ≡ 0) (a j : ℕ) (P Q : Truths)
    (agree : (i : ℕ) → 1 ≤ i → i < j → (u : ℕ) → 1 ≤ u → u ≤ nodes M → P i u ↔ Q i u) where
  pub says_same : (l : Entry) → Refers a j l → (s : ℕ) → 1 ≤ s → s ≤ nodes M → Says (kripke M) P l s ↔ Says (kripke M) Q l s
  unfolding Refers Says
  says_same (sig i) r s lo hi = Iff.rfl
  says_same (neg i) r s lo hi = Iff.not (agree i r.0 r.1 s lo hi)
  says_same (alt i k) r s lo hi = sum-iff (agree i r.0.0 r.0.1 s lo hi) (agree k r.1.0 r.1.1 s lo hi)
  says_same (next i) r s lo hi =
      let at = edge_stays M ok s lo hi in (
        λ x. let h = at x.0 x.1 in (x.0, x.1, (agree i r.0 r.1 x.0 h.0 h.1).0 x.2),
        λ x. let h = at x.0 x.1 in (x.0, x.1, (agree i r.0 r.1 x.0 h.0 h.1).1 x.2),
      )

module _ (M : List ℕ) (ok : machine_refusal M ≡ 0) (a : ℕ) (ls : List Entry) (down : Downward a ls)
    (j : ℕ) (l : 1 ≤ j) (h : j ≤ length ls) (s : ℕ) (lo : 1 ≤ s) (hi : s ≤ nodes M) where
  means-by : (x : Entry) → entry ls j ≡ x → Refers a j x
      → Means (kripke M) (automaton (sheet ls)) (TrueIn M ls) (decoded (λ i. line_word (lifted line_words) (sheet ls) j (argument_place i)) x) s
      ↔ Says (kripke M) (TrueIn M ls) x s
  unfolding Means decoded Says Refers
  means-by (sig i) e r = Iff.rfl
  means-by (neg i) e r = Iff.rfl
  means-by (alt i k) e r = Iff.rfl
  means-by (next i) e r =
      let arg : ℕ → ℕ = λ k. line_word (lifted line_words) (sheet ls) j (argument_place k) in
      let q : arg 0 ≡ i = argument_is ls j i e in
      let d : (u : ℕ) → 1 ≤ u → u ≤ nodes M → Dec (TrueIn M ls (arg 0) u) = λ u.
      truth-decided (lifted line_words) M (sheet ls) ok (accepted a ls down (omega arith)) (arg 0) u (omega arith) (omega (arith, lines_are ls)) in
      rw q at (next-step M ok (automaton (sheet ls) 1) (is-next ls) (TrueIn M ls) arg d s lo hi)

  -- a line is true where it says so
  pub true-says : TrueIn M ls j s ↔ Says (kripke M) (TrueIn M ls) (entry ls j) s
  true-says =
      Iff.trans (truth-recursion (lifted line_words) M (sheet ls) (accepted a ls down (omega arith)) j s l (omega (arith, lines_are ls)))
      (rw (line-is ls j) (means-by (entry ls j) refl (down.refers j l h)))

  -- each kind of line
  true-by : (x : Entry) → entry ls j ≡ x → TrueIn M ls j s ↔ Says (kripke M) (TrueIn M ls) x s
  true-by x e = rw e at true-says

  pub true-sig : (i : ℕ) → entry ls j ≡ sig i → TrueIn M ls j s ↔ T ((kripke M).signal i s)
  unfolding Says
  true-sig i = true-by (sig i)

  pub true-neg : (i : ℕ) → entry ls j ≡ neg i → TrueIn M ls j s ↔ (TrueIn M ls i s → ⊥)
  unfolding Says
  true-neg i = true-by (neg i)

  pub true-alt : (i k : ℕ) → entry ls j ≡ alt i k → TrueIn M ls j s ↔ (TrueIn M ls i s ⊎ TrueIn M ls k s)
  unfolding Says
  true-alt i k = true-by (alt i k)

  pub true-next : (i : ℕ) → entry ls j ≡ next i → TrueIn M ls j s ↔ ((t : ℕ) × T ((kripke M).edge s t) × TrueIn M ls i t)
  unfolding Says
  true-next i = true-by (next i)
