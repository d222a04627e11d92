-- A refinement of the nodes of two machines: blocks, each with a written line that is true at exactly its nodes. It is split
-- by a line whose set divides a block, and it has at most as many blocks as there are nodes.
use mathlib.Core.Path.{◌≡◌, refl, sym, subst, ◌∙◌}
use mathlib.Core.Logic.{◌≢◌, ◌⊎◌, inl, inr, ⊎_elim, by_cases}
use Prim.Native.Nat.{ℕ, suc, ◌+◌, ◌≤◌, ◌<◌}
use native.Mathlib.Omega.{arith}
use native.Mathlib.Decide.{ℕ_discrete}
use mathlib.Core.List.{List, ◌++◌}
use mathlib.Core.Bool.{Bool, not, ◌&&◌}
use lib.ListN.{length, length-append}
use lib.Dec.{T, T_not, not_T}
use Rattle.truth.specs.Passed.{nodes, machine_refusal}
use Rattle.truth.proofs.Passed.{and_both, and_left, and_right, dec-test}
use Rattle.comparison.specs.inner.Lines.{Entry, Downward, split}
use Rattle.comparison.specs.inner.Blocks.{Exact, Members, In, Covers, Disjoint, Inhabited, Meets}
use Rattle.comparison.specs.inner.Refinement.{Refined, LinesIn, Refinement, Parted, Lined}
use Rattle.comparison.proofs.ExactLines.{exact-as, exact-kept, split-down, split-length, split-both, split-first}
use Rattle.comparison.proofs.CountedBlocks.{at-most-nodes}

-- a fact of the new blocks: of the added one, of c, and of the others
pub each-block : (count c : ℕ) (P : ℕ → Type 0) → P count → P c → ((d : ℕ) → d < count → d ≢ c → P d) → (d : ℕ) → d < suc count → P d
each-block count c P added here others d h =
    by_cases (ℕ_discrete d count) (λ e. subst P (sym e) added)
    (λ f. by_cases (ℕ_discrete d c) (λ e. subst P (sym e) here) (λ g. others d (omega arith) g))

module _ (M : List ℕ) (count c : ℕ) (x : ℕ → Bool) (mem mem' : Members) (in-range : c < count) (parted : Parted count c x mem mem') where
  parted-covers : Covers M mem count → Covers M mem' (suc count)
  unfolding Covers
  parted-covers covers s lo hi =
      let o = covers s lo hi in
      by_cases (ℕ_discrete o.0 c)
      (λ e.
      let t : T (mem c s) = subst (λ (d : ℕ). T (mem d s)) e o.2 in
      by_cases (dec-test (x s))
      (λ y. (c, omega arith, subst T (sym (parted.here s)) (and_both (mem c s) (x s) t y)))
      (λ y. (count, omega arith, subst T (sym (parted.added s)) (and_both (mem c s) (not (x s)) t (not_T (x s) y)))))
      (λ e. (o.0, omega arith, subst T (sym (parted.others o.0 s o.1 e)) o.2))

  -- a node of a new block, in the old ones
  origin : (s d : ℕ) → d < suc count → In M mem' d s
      → ((d ≡ count) × In M mem c s × T (not (x s))) ⊎ ((d < count) × In M mem d s × (d ≡ c → T (x s)))
  unfolding In
  origin s =
      each-block count c (λ d. In M mem' d s → ((d ≡ count) × In M mem c s × T (not (x s))) ⊎ ((d < count) × In M mem d s × (d ≡ c → T (x s))))
      (λ i.
      let t : T (mem c s && not (x s)) = subst T (parted.added s) i.2 in
      inl (refl, (i.0, i.1, and_left (mem c s) (not (x s)) t), and_right (mem c s) (not (x s)) t))
      (λ i.
      let t : T (mem c s && x s) = subst T (parted.here s) i.2 in
      inr (in-range, (i.0, i.1, and_left (mem c s) (x s) t), λ e. and_right (mem c s) (x s) t))
      (λ d h f i. inr (h, (i.0, i.1, subst T (parted.others d s h f) i.2), λ e. absurd (f e)))

  parted-once : Disjoint M mem count → Disjoint M mem' (suc count)
  unfolding Disjoint
  parted-once once d e s h l i k =
      ⊎_elim
      (λ p. ⊎_elim (λ q. p.0 ∙ sym q.0) (λ q. absurd (T_not (x s) p.2 (q.2 (sym (once c e s in-range q.0 p.1 q.1))))) (origin s e l k))
      (λ p. ⊎_elim (λ q. absurd (T_not (x s) q.2 (p.2 (once d c s p.0 in-range p.1 q.1)))) (λ q. once d e s p.0 q.0 p.1 q.1) (origin s e l k))
      (origin s d h i)

-- under another name for the line and for the set
exact-at : (M : List ℕ) (ls : List Entry) (j j' : ℕ) (p p' : ℕ → Bool) → j' ≡ j → ((s : ℕ) → p' s ≡ p s) → Exact M ls j p → Exact M ls j' p'
exact-at M ls j j' p p' e f x = rw e (exact-as M ls j p p' (λ s lo hi. sym (f s)) x)

module _ (a : ℕ) (ls : List Entry) (down : Downward a ls) (count c p : ℕ) (line line' : ℕ → ℕ) (in-range : c < count) (lp : 1 ≤ p) (hp : p ≤ length ls)
    (lines : LinesIn ls count line) (lined : Lined count c (length ls) line line') where
  split-lines : LinesIn (ls ++ split (length ls) (line c) p) (suc count) line'
  unfolding LinesIn
  split-lines =
      let size = split-length a ls down (line c) p (lines c in-range).0 (lines c in-range).1 lp hp in
      each-block count c (λ d. (1 ≤ line' d) × (line' d ≤ length (ls ++ split (length ls) (line c) p)))
      (omega (arith, lined.added, size)) (omega (arith, lined.here, size)) (λ d h f. omega (arith, lined.others d h f, lines d h, size))

  module _ (M : List ℕ) (accepted : machine_refusal M ≡ 0) (x : ℕ → Bool) (ep : Exact M ls p x) (mem mem' : Members)
      (parted : Parted count c x mem mem') (refined : Refined M ls count line mem) where
    split-exact : (d : ℕ) → d < suc count → Exact M (ls ++ split (length ls) (line c) p) (line' d) (mem' d)
    unfolding LinesIn
    split-exact =
        let new = ls ++ split (length ls) (line c) p in
        let lb = (lines c in-range).0 in
        let hb = (lines c in-range).1 in
        each-block count c (λ d. Exact M new (line' d) (mem' d))
        (exact-at M new (length ls + 6) (line' count) (λ s. mem c s && not (x s)) (mem' count) lined.added parted.added
        (split-first a ls down (line c) p lb hb lp hp M accepted (mem c) x (refined.exact c in-range) ep))
        (exact-at M new (length ls + 4) (line' c) (λ s. mem c s && x s) (mem' c) lined.here parted.here
        (split-both a ls down (line c) p lb hb lp hp M accepted (mem c) x (refined.exact c in-range) ep))
        (λ d h f. exact-at M new (line d) (line' d) (mem d) (mem' d) (lined.others d h f) (λ s. parted.others d s h f)
        (exact-kept M accepted a ls (split (length ls) (line c) p) down (split-down a ls down (line c) p lb hb lp hp)
        (line d) (lines d h).0 (lines d h).1 (mem d) (refined.exact d h)))

    split-refined : Refined M (ls ++ split (length ls) (line c) p) (suc count) line' mem'
    split-refined = record {
      covers = parted-covers M count c x mem mem' in-range parted refined.covers;
      once = parted-once M count c x mem mem' in-range parted refined.once;
      exact = split-exact;
    }

still-inhabited : (M₁ M₂ : List ℕ) (m₁ m₂ m₁' m₂' : Members) (d : ℕ) → ((s : ℕ) → m₁' d s ≡ m₁ d s) → ((t : ℕ) → m₂' d t ≡ m₂ d t)
    → Inhabited M₁ M₂ m₁ m₂ d → Inhabited M₁ M₂ m₁' m₂' d
unfolding Inhabited
still-inhabited M₁ M₂ m₁ m₂ m₁' m₂' d e f (inl i) = inl (i.0, (i.1.0, i.1.1, subst T (sym (e i.0)) i.1.2))
still-inhabited M₁ M₂ m₁ m₂ m₁' m₂' d e f (inr i) = inr (i.0, (i.1.0, i.1.1, subst T (sym (f i.0)) i.1.2))

-- a part that a set meets has a node
pub met : (M₁ M₂ : List ℕ) (m₁ m₂ m₁' m₂' : Members) (c d : ℕ) (x₁ x₂ : ℕ → Bool)
    → ((s : ℕ) → m₁' d s ≡ (m₁ c s && x₁ s)) → ((t : ℕ) → m₂' d t ≡ (m₂ c t && x₂ t))
    → Meets M₁ M₂ m₁ m₂ c x₁ x₂ → Inhabited M₁ M₂ m₁' m₂' d
unfolding Meets Inhabited
met M₁ M₂ m₁ m₂ m₁' m₂' c d x₁ x₂ e₁ e₂ (inl y) =
    inl (y.0, (y.1.0, y.1.1, subst T (sym (e₁ y.0)) (and_both (m₁ c y.0) (x₁ y.0) y.1.2 y.2)))
met M₁ M₂ m₁ m₂ m₁' m₂' c d x₁ x₂ e₁ e₂ (inr y) =
    inr (y.0, (y.1.0, y.1.1, subst T (sym (e₂ y.0)) (and_both (m₂ c y.0) (x₂ y.0) y.1.2 y.2)))

module _ (a : ℕ) (M₁ M₂ : List ℕ) (ok₁ : machine_refusal M₁ ≡ 0) (ok₂ : machine_refusal M₂ ≡ 0) (ls : List Entry) (count : ℕ) (line : ℕ → ℕ) (m₁ m₂ : Members)
    (r : Refinement a M₁ M₂ ls count line m₁ m₂) where
  pub blocks-few : count ≤ nodes M₁ + nodes M₂
  blocks-few = at-most-nodes M₁ M₂ m₁ m₂ count r.first.once r.second.once r.inhabited

  -- lines are added
  pub grows : (more : List Entry) → Downward a (ls ++ more) → Refinement a M₁ M₂ (ls ++ more) count line m₁ m₂
  unfolding LinesIn
  grows more down = record {
    down = down;
    lines = λ c h. ((r.lines c h).0, omega (arith, r.lines c h, length-append ls more));
    first = record {
      covers = r.first.covers;
      once = r.first.once;
      exact = λ c h. exact-kept M₁ ok₁ a ls more r.down down (line c) (r.lines c h).0 (r.lines c h).1 (m₁ c) (r.first.exact c h);
    };
    second = record {
      covers = r.second.covers;
      once = r.second.once;
      exact = λ c h. exact-kept M₂ ok₂ a ls more r.down down (line c) (r.lines c h).0 (r.lines c h).1 (m₂ c) (r.second.exact c h);
    };
    inhabited = r.inhabited;
  }

  -- block c is split by line p, which is true at exactly x₁ and x₂, into two parts that both have a node
  pub splits : (c p : ℕ) → c < count → 1 ≤ p → p ≤ length ls → (x₁ x₂ : ℕ → Bool) → Exact M₁ ls p x₁ → Exact M₂ ls p x₂
      → (line' : ℕ → ℕ) (m₁' m₂' : Members) → Lined count c (length ls) line line' → Parted count c x₁ m₁ m₁' → Parted count c x₂ m₂ m₂'
      → Inhabited M₁ M₂ m₁' m₂' c → Inhabited M₁ M₂ m₁' m₂' count
      → Refinement a M₁ M₂ (ls ++ split (length ls) (line c) p) (suc count) line' m₁' m₂'
  unfolding LinesIn
  splits c p h lp hp x₁ x₂ e₁ e₂ line' m₁' m₂' lined parted₁ parted₂ some_in some_out = record {
    down = split-down a ls r.down (line c) p (r.lines c h).0 (r.lines c h).1 lp hp;
    lines = split-lines a ls r.down count c p line line' h lp hp r.lines lined;
    first = split-refined a ls r.down count c p line line' h lp hp r.lines lined M₁ ok₁ x₁ e₁ m₁ m₁' parted₁ r.first;
    second = split-refined a ls r.down count c p line line' h lp hp r.lines lined M₂ ok₂ x₂ e₂ m₂ m₂' parted₂ r.second;
    inhabited = each-block count c (Inhabited M₁ M₂ m₁' m₂') some_out some_in (λ d l f.
        still-inhabited M₁ M₂ m₁ m₂ m₁' m₂' d (λ s. parted₁.others d s l f) (λ t. parted₂.others d t l f) (r.inhabited d l));
  }
