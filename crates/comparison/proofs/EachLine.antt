-- The references of a line; and a line with its references renumbered: what it refers to, and that it says the same.
use mathlib.Core.Path.{◌≡◌}
use mathlib.Core.Logic.Iff
use mathlib.Core.Logic.{◌↔◌, inl, inr}
use Prim.Native.Nat.{ℕ, ◌≤◌, ◌<◌}
use mathlib.Core.List.{List}
use Rattle.truth.specs.Passed.{kripke, nodes, machine_refusal}
use Rattle.truth.specs.Truth.{Truths}
use Rattle.truth.proofs.Passed.{sum-iff, edge_stays}
use Rattle.comparison.specs.inner.Lines.{Entry, sig, neg, alt, next, Refers}
use Rattle.comparison.specs.inner.Needed.{renumber, EachLine, SomeLine}
use Rattle.comparison.proofs.TrueLines.{Says}

pub each-also : (P Q R : ℕ → Type 0) → ((i : ℕ) → P i → Q i → R i) → (l : Entry) → EachLine P l → EachLine Q l → EachLine R l
unfolding EachLine
each-also P Q R f (sig i) x y = tt
each-also P Q R f (neg j) x y = f j x y
each-also P Q R f (alt i j) x y = (f i x.0 y.0, f j x.1 y.1)
each-also P Q R f (next j) x y = f j x y

pub some-each : {X : Type 0} (P Q : ℕ → Type 0) → ((i : ℕ) → P i → Q i → X) → (l : Entry) → EachLine P l → SomeLine Q l → X
unfolding EachLine SomeLine
some-each P Q f (sig i) x y = absurd y
some-each P Q f (neg j) x y = f j x y
some-each P Q f (alt i j) x (inl y) = f i x.0 y
some-each P Q f (alt i j) x (inr y) = f j x.1 y
some-each P Q f (next j) x y = f j x y

pub some-renumbered : (f : ℕ → ℕ) (Q R : ℕ → Type 0) → ((i : ℕ) → Q i → R (f i)) → (l : Entry) → SomeLine Q l → SomeLine R (renumber f l)
unfolding SomeLine renumber
some-renumbered f Q R g (sig i) x = x
some-renumbered f Q R g (neg j) x = g j x
some-renumbered f Q R g (alt i j) (inl x) = inl (g i x)
some-renumbered f Q R g (alt i j) (inr x) = inr (g j x)
some-renumbered f Q R g (next j) x = g j x

pub each-above : (a j : ℕ) (l : Entry) → Refers a j l → EachLine (λ i. (1 ≤ i) × (i < j)) l
unfolding EachLine Refers
each-above a j (sig i) r = tt
each-above a j (neg i) r = r
each-above a j (alt i k) r = r
each-above a j (next i) r = r

pub refers-renumbered : (a j k : ℕ) (f : ℕ → ℕ) (l : Entry) → Refers a j l → EachLine (λ i. (1 ≤ f i) × (f i < k)) l → Refers a k (renumber f l)
unfolding EachLine Refers renumber
refers-renumbered a j k f (sig i) r x = r
refers-renumbered a j k f (neg i) r x = x
refers-renumbered a j k f (alt i m) r x = x
refers-renumbered a j k f (next i) r x = x

pub says-renumbered : (M : List ℕ) → machine_refusal M ≡ 0 → (f : ℕ → ℕ) (P Q : Truths) (l : Entry)
    → EachLine (λ i. (u : ℕ) → 1 ≤ u → u ≤ nodes M → P i u ↔ Q (f i) u) l
    → (s : ℕ) → 1 ≤ s → s ≤ nodes M → Says (kripke M) P l s ↔ Says (kripke M) Q (renumber f l) s
unfolding EachLine renumber Says
says-renumbered M ok f P Q (sig i) x s lo hi = Iff.rfl
says-renumbered M ok f P Q (neg i) x s lo hi = Iff.not (x s lo hi)
says-renumbered M ok f P Q (alt i k) x s lo hi = sum-iff (x.0 s lo hi) (x.1 s lo hi)
says-renumbered M ok f P Q (next i) x s lo hi =
    let at = edge_stays M ok s lo hi in (
      λ y. let h = at y.0 y.1 in (y.0, y.1, (x y.0 h.0 h.1).0 y.2),
      λ y. let h = at y.0 y.1 in (y.0, y.1, (x y.0 h.0 h.1).1 y.2),
    )
