-- Lines that are true at exactly the nodes of a set: each kind of line, and the two parts of a split; and that they stay so
-- when lines are added.
use mathlib.Core.Path.{◌≡◌, refl, subst, ap, ◌∙◌}
use mathlib.Core.Logic.Iff
use mathlib.Core.Logic.{◌↔◌}
use Prim.Native.Nat.{ℕ, zero, suc, ◌+◌, ◌≤◌}
use native.Mathlib.Omega.{arith}
use mathlib.Core.List.{List, [], ◌∷◌, ◌++◌}
use mathlib.Core.Bool.{Bool, true, false, not, ◌&&◌, ◌||◌, not-not}
use lib.ListN.{length, length-append}
use lib.Dec.{T}
use Rattle.truth.specs.Passed.{kripke, nodes, machine_refusal}
use Rattle.truth.specs.inner.Rows.{leads_into}
use Rattle.truth.proofs.Passed.{not_is, or_is, sum-iff, edge_stays}
use Rattle.truth.proofs.structure.TargetRows.{leads-into}
use Rattle.comparison.specs.inner.Lines.{Entry, sig, neg, alt, next, entry, Refers, Downward, split}
use Rattle.comparison.specs.inner.Blocks.{TrueIn, Exact}
use Rattle.comparison.proofs.TrueLines.{true-sig, true-neg, true-alt, true-next}
use Rattle.comparison.proofs.AddedLines.{entry-added, entry-one, down-added, down-one, true-kept}

-- the same of another test of the same set
pub exact-as : (M : List ℕ) (ls : List Entry) (j : ℕ) (p q : ℕ → Bool) → ((s : ℕ) → 1 ≤ s → s ≤ nodes M → p s ≡ q s) → Exact M ls j p → Exact M ls j q
unfolding Exact
exact-as M ls j p q e x s lo hi = subst (λ (b : Bool). TrueIn M ls j s ↔ T b) (e s lo hi) (x s lo hi)

module _ (M : List ℕ) (ok : machine_refusal M ≡ 0) (a : ℕ) (ls : List Entry) (down : Downward a ls) (j : ℕ) (l : 1 ≤ j) (h : j ≤ length ls) where
  pub exact-sig : (i : ℕ) → entry ls j ≡ sig i → Exact M ls j ((kripke M).signal i)
  unfolding Exact
  exact-sig i e s lo hi = true-sig M ok a ls down j l h s lo hi i e

  pub exact-neg : (i : ℕ) (p : ℕ → Bool) → entry ls j ≡ neg i → Exact M ls i p → Exact M ls j (λ s. not (p s))
  unfolding Exact
  exact-neg i p e x s lo hi = Iff.trans (true-neg M ok a ls down j l h s lo hi i e) (Iff.trans (Iff.not (x s lo hi)) (not_is (p s)))

  pub exact-alt : (i k : ℕ) (p q : ℕ → Bool) → entry ls j ≡ alt i k → Exact M ls i p → Exact M ls k q → Exact M ls j (λ s. p s || q s)
  unfolding Exact
  exact-alt i k p q e x y s lo hi =
      Iff.trans (true-alt M ok a ls down j l h s lo hi i k e) (Iff.trans (sum-iff (x s lo hi) (y s lo hi)) (or_is (p s) (q s)))

  -- some next node is in the set
  pub exact-next : (i : ℕ) (p : ℕ → Bool) → entry ls j ≡ next i → Exact M ls i p → Exact M ls j (leads_into M p)
  unfolding Exact
  exact-next i p e x s lo hi =
      let at = edge_stays M ok s lo hi in
      Iff.trans (true-next M ok a ls down j l h s lo hi i e)
      (Iff.trans (
        λ y. (y.0, y.1, (x y.0 (at y.0 y.1).0 (at y.0 y.1).1).0 y.2),
        λ y. (y.0, y.1, (x y.0 (at y.0 y.1).0 (at y.0 y.1).1).1 y.2),
      )
      (leads-into M p s))

-- lines are added
pub exact-kept : (M : List ℕ) → machine_refusal M ≡ 0 → (a : ℕ) (ls more : List Entry) → Downward a ls → Downward a (ls ++ more)
    → (j : ℕ) → 1 ≤ j → j ≤ length ls → (p : ℕ → Bool) → Exact M ls j p → Exact M (ls ++ more) j p
unfolding Exact
exact-kept M ok a ls more down down' j l h p x s lo hi =
    Iff.trans (Iff.symm (true-kept ls more M ok a down down' j l h s lo hi)) (x s lo hi)

-- ---- the line "some next of line i", below the others
module _ (a : ℕ) (ls : List Entry) (down : Downward a ls) (i : ℕ) (l : 1 ≤ i) (h : i ≤ length ls) where
  pub next_down : Downward a (ls ++ next i ∷ [])
  unfolding Refers
  next_down = down-one a ls (next i) down (l, omega arith)

  pub next-added : (M : List ℕ) → machine_refusal M ≡ 0 → (p : ℕ → Bool) → Exact M ls i p → Exact M (ls ++ next i ∷ []) (length ls + 1) (leads_into M p)
  next-added M ok p e =
      exact-next M ok a (ls ++ next i ∷ []) next_down (length ls + 1) (omega arith) (omega (arith, length-append ls (next i ∷ []))) i p
      (entry-one ls (next i)) (exact-kept M ok a ls (next i ∷ []) down next_down i l h p e)

-- ---- a split
first-only : (x y : Bool) → not (not x || y) ≡ (x && not y)
first-only true y = refl
first-only false y = refl

both_true : (x y : Bool) → not (not x || not y) ≡ (x && y)
both_true x y = first-only x (not y) ∙ ap (λ (b : Bool). x && b) (not-not y)

module _ (a : ℕ) (ls : List Entry) (down : Downward a ls) (b p : ℕ) (lb : 1 ≤ b) (hb : b ≤ length ls) (lp : 1 ≤ p) (hp : p ≤ length ls) where
  split-refers : (k : ℕ) → 1 ≤ k → k ≤ 6 → Refers a (length ls + k) (entry (split (length ls) b p) k)
  unfolding Refers entry split
  split-refers zero l h = absurd (omega arith)
  split-refers (suc zero) l h = (lb, omega arith)
  split-refers (suc (suc zero)) l h = (lp, omega arith)
  split-refers (suc (suc (suc zero))) l h = ((omega arith, omega arith), (omega arith, omega arith))
  split-refers (suc (suc (suc (suc zero)))) l h = (omega arith, omega arith)
  split-refers (suc (suc (suc (suc (suc zero))))) l h = ((omega arith, omega arith), (lp, omega arith))
  split-refers (suc (suc (suc (suc (suc (suc zero)))))) l h = (omega arith, omega arith)
  split-refers (suc (suc (suc (suc (suc (suc (suc k))))))) l h = absurd (omega arith)

  pub split-down : Downward a (ls ++ split (length ls) b p)
  unfolding split
  split-down = down-added ls (split (length ls) b p) a down split-refers

  pub split-length : length (ls ++ split (length ls) b p) ≡ length ls + 6
  unfolding split
  split-length = length-append ls (split (length ls) b p)

  module _ (M : List ℕ) (ok : machine_refusal M ≡ 0) where
    neg-at : (k : ℕ) → 1 ≤ k → k ≤ 6 → (i : ℕ) (z : ℕ → Bool) → entry (split (length ls) b p) k ≡ neg i
        → Exact M (ls ++ split (length ls) b p) i z → Exact M (ls ++ split (length ls) b p) (length ls + k) (λ s. not (z s))
    neg-at k l h i z e =
        exact-neg M ok a (ls ++ split (length ls) b p) split-down (length ls + k) (omega arith) (omega (arith, split-length)) i z
        (entry-added ls (split (length ls) b p) k l ∙ e)

    alt-at : (k : ℕ) → 1 ≤ k → k ≤ 6 → (i j : ℕ) (z w : ℕ → Bool) → entry (split (length ls) b p) k ≡ alt i j
        → Exact M (ls ++ split (length ls) b p) i z → Exact M (ls ++ split (length ls) b p) j w
        → Exact M (ls ++ split (length ls) b p) (length ls + k) (λ s. z s || w s)
    alt-at k l h i j z w e =
        exact-alt M ok a (ls ++ split (length ls) b p) split-down (length ls + k) (omega arith) (omega (arith, split-length)) i j z w
        (entry-added ls (split (length ls) b p) k l ∙ e)

    module _ (x y : ℕ → Bool) (eb : Exact M ls b x) (ep : Exact M ls p y) where
      not-b : Exact M (ls ++ split (length ls) b p) (length ls + 1) (λ s. not (x s))
      unfolding entry split
      not-b = neg-at 1 (omega arith) (omega arith) b x refl (exact-kept M ok a ls (split (length ls) b p) down split-down b lb hb x eb)

      still-p : Exact M (ls ++ split (length ls) b p) p y
      still-p = exact-kept M ok a ls (split (length ls) b p) down split-down p lp hp y ep

      not-p : Exact M (ls ++ split (length ls) b p) (length ls + 2) (λ s. not (y s))
      unfolding entry split
      not-p = neg-at 2 (omega arith) (omega arith) p y refl still-p

      pub split-both : Exact M (ls ++ split (length ls) b p) (length ls + 4) (λ s. x s && y s)
      unfolding entry split
      split-both =
          exact-as M (ls ++ split (length ls) b p) (length ls + 4) (λ s. not (not (x s) || not (y s))) (λ s. x s && y s) (λ s lo hi. both_true (x s) (y s))
          (neg-at 4 (omega arith) (omega arith) (length ls + 3) (λ s. not (x s) || not (y s)) refl
          (alt-at 3 (omega arith) (omega arith) (length ls + 1) (length ls + 2) (λ s. not (x s)) (λ s. not (y s)) refl not-b not-p))

      pub split-first : Exact M (ls ++ split (length ls) b p) (length ls + 6) (λ s. x s && not (y s))
      unfolding entry split
      split-first =
          exact-as M (ls ++ split (length ls) b p) (length ls + 6) (λ s. not (not (x s) || y s)) (λ s. x s && not (y s)) (λ s lo hi. first-only (x s) (y s))
          (neg-at 6 (omega arith) (omega arith) (length ls + 5) (λ s. not (x s) || y s) refl
          (alt-at 5 (omega arith) (omega arith) (length ls + 1) p (λ s. not (x s)) y refl not-b still-p))
