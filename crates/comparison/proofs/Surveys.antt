-- What the signatures of a block's nodes tell of it.
use mathlib.Core.Path.{◌≡◌, sym, subst}
use mathlib.Core.Logic.{◌⊎◌, inl, inr, ⊎_elim, by_cases}
use Prim.Native.Nat.{ℕ, ◌≤◌}
use mathlib.Core.List.{List}
use mathlib.Core.Bool.{Bool, true, not}
use lib.Dec.{T, T_not, not_T}
use Rattle.truth.specs.Sizes.{members_most}
use Rattle.truth.specs.Passed.{each}
use Rattle.truth.specs.inner.Rows.{row_has}
use Rattle.truth.specs.inner.Marks.{marks_into}
use Rattle.std.specs.Prelude.{Option, None, Some}
use Rattle.truth.proofs.Passed.{dec-test}
use Rattle.truth.proofs.rows.RowLaws.{none_passes}
use Rattle.truth.proofs.rows.RowWalks.{Less, less-in, less-or}
use Rattle.comparison.specs.inner.Blocks.{Members, In, AllIn, Meets, Unsplit, Split}
use Rattle.comparison.specs.inner.Tables.{OfNodes}
use Rattle.comparison.specs.inner.Signatures.{TellsUnlike, Alone, Leads, TellsMark}
use Rattle.comparison.specs.declared.signatures.Lead.{Lead}

-- ---- what is told of a block

-- a row from which one is taken
pub one_only : (p left : ℕ → Bool) (u : ℕ) → ((s : ℕ) → T (left s) → (1 ≤ s) × (s ≤ members_most)) → Less p u left → each members_most (λ s. not (left s)) ≡ true → (s : ℕ) → T (p s) → s ≡ u
one_only p left u inside less none s t = ⊎_elim (λ i. i) (λ l. absurd (none_passes left inside none s l)) (less-or p left u less s t)

module _ (M₁ M₂ : List ℕ) (m₁ m₂ : Members) (c : ℕ) (row₁ row₂ : ℕ → Bool) (e₁ : (s : ℕ) → row₁ s ≡ m₁ c s) (e₂ : (t : ℕ) → row₂ t ≡ m₂ c t) where
  -- a block of one node is not split
  pub unsplit-alone : Alone row₁ row₂ → (x₁ x₂ : ℕ → Bool) → Unsplit M₁ M₂ m₁ m₂ c x₁ x₂
  unfolding Unsplit AllIn In
  unsplit-alone a x₁ x₂ = by_cases (dec-test (row₁ a.node)) in-first in-second
    where
      at₁ : (s : ℕ) → T (m₁ c s) → s ≡ a.node
      at₁ s t = a.first s (rw (e₁ s) t)

      at₂ : (s : ℕ) → T (m₂ c s) → s ≡ a.node
      at₂ s t = a.second s (rw (e₂ s) t)

      here : (s : ℕ) → T (m₁ c s) → T (row₁ a.node)
      here s t = subst (λ (k : ℕ). T (row₁ k)) (at₁ s t) (rw (e₁ s) t)

      in-first : T (row₁ a.node) → Unsplit M₁ M₂ m₁ m₂ c x₁ x₂
      in-first y = by_cases (dec-test (x₁ a.node))
          (λ x. inl (λ s i. rw (at₁ s i.2) x, λ t i. absurd (a.apart a.node t y (rw (e₂ t) i.2))))
          (λ x. inr (λ s i. rw (at₁ s i.2) (not_T (x₁ a.node) x), λ t i. absurd (a.apart a.node t y (rw (e₂ t) i.2))))

      in-second : (T (row₁ a.node) → ⊥) → Unsplit M₁ M₂ m₁ m₂ c x₁ x₂
      in-second n = by_cases (dec-test (x₂ a.node))
          (λ x. inl (λ s i. absurd (n (here s i.2)), λ t i. rw (at₂ t i.2) x))
          (λ x. inr (λ s i. absurd (n (here s i.2)), λ t i. rw (at₂ t i.2) (not_T (x₂ a.node) x)))

  module _ (mark₁ mark₂ : List (Option ℕ)) where
    -- nor is one of none
    pub mark-none : ((s : ℕ) → T (row₁ s) → ⊥) → ((t : ℕ) → T (row₂ t) → ⊥) → TellsMark M₁ M₂ m₁ m₂ mark₁ mark₂ c None
    unfolding Unsplit AllIn In
    mark-none n₁ n₂ e = inl (λ s i. absurd (n₁ s (rw (e₁ s) i.2)), λ t i. absurd (n₂ t (rw (e₂ t) i.2)))

    pub mark-alone : Alone row₁ row₂ → TellsMark M₁ M₂ m₁ m₂ mark₁ mark₂ c None
    mark-alone a e = unsplit-alone a (λ s. marks_into M₁ mark₁ s e) (λ t. marks_into M₂ mark₂ t e)

-- ---- a leader, and the nodes that are unlike it

-- the set l is the signature of a node of the rows, and the others are left
pub record LedBy (M₁ M₂ : List ℕ) (mark₁ mark₂ : List (Option ℕ)) (row₁ row₂ l rest₁ rest₂ : ℕ → Bool) : Type 0 where
  pub leads : ((s : ℕ) × T (row₁ s) × ((e : ℕ) → l e ≡ marks_into M₁ mark₁ s e)) ⊎ ((t : ℕ) × T (row₂ t) × ((e : ℕ) → l e ≡ marks_into M₂ mark₂ t e))
  pub fewer₁ : (s : ℕ) → T (rest₁ s) → T (row₁ s)
  pub fewer₂ : (t : ℕ) → T (rest₂ t) → T (row₂ t)
  pub like₁ : (s : ℕ) → T (row₁ s) → T (rest₁ s) ⊎ ((e : ℕ) → l e ≡ marks_into M₁ mark₁ s e)
  pub like₂ : (t : ℕ) → T (row₂ t) → T (rest₂ t) ⊎ ((e : ℕ) → l e ≡ marks_into M₂ mark₂ t e)

-- the leader is left out, and no other node
left-out : (M : List ℕ) (mark : List (Option ℕ)) (row : ℕ → Bool) (lead : Lead) → Leads M mark row lead → (s : ℕ) → T (row s)
    → T (row_has lead.rest s) ⊎ ((e : ℕ) → row_has lead.marks e ≡ marks_into M mark s e)
left-out M mark row lead k s t =
    ⊎_elim (λ q. inr (λ e. subst (λ (i : ℕ). row_has lead.marks e ≡ marks_into M mark i e) (sym q) (k.signature e))) inl (less-or row (row_has lead.rest) k.node k.rest s t)

module _ (M₁ M₂ : List ℕ) (mark₁ mark₂ : List (Option ℕ)) (row₁ row₂ : ℕ → Bool) (lead : Lead) where
  pub led-first : Leads M₁ mark₁ row₁ lead → LedBy M₁ M₂ mark₁ mark₂ row₁ row₂ (row_has lead.marks) (row_has lead.rest) row₂
  led-first k = record {
    leads = inl (k.node, k.is_in, k.signature);
    fewer₁ = less-in row₁ (row_has lead.rest) k.node k.rest;
    fewer₂ = λ t x. x;
    like₁ = left-out M₁ mark₁ row₁ lead k;
    like₂ = λ t x. inl x;
  }

  pub led-second : Leads M₂ mark₂ row₂ lead → LedBy M₁ M₂ mark₁ mark₂ row₁ row₂ (row_has lead.marks) row₁ (row_has lead.rest)
  led-second k = record {
    leads = inr (k.node, k.is_in, k.signature);
    fewer₁ = λ s x. x;
    fewer₂ = less-in row₂ (row_has lead.rest) k.node k.rest;
    like₁ = λ s x. inl x;
    like₂ = left-out M₂ mark₂ row₂ lead k;
  }

module _ (M₁ M₂ : List ℕ) (mark₁ mark₂ : List (Option ℕ)) (row₁ row₂ l rest₁ rest₂ : ℕ → Bool) (led : LedBy M₁ M₂ mark₁ mark₂ row₁ row₂ l rest₁ rest₂)
    (m₁ m₂ : Members) (c : ℕ) (e₁ : (s : ℕ) → row₁ s ≡ m₁ c s) (e₂ : (t : ℕ) → row₂ t ≡ m₂ c t) (low₁ : (s : ℕ) → T (row₁ s) → 1 ≤ s) (low₂ : (t : ℕ) → T (row₂ t) → 1 ≤ t) where
  -- none is
  all-like : TellsUnlike M₁ mark₁ rest₁ l None → TellsUnlike M₂ mark₂ rest₂ l None → TellsMark M₁ M₂ m₁ m₂ mark₁ mark₂ c None
  unfolding Unsplit AllIn In
  all-like u₁ u₂ e = by_cases (dec-test (l e))
      (λ t. inl (λ s i. rw (like₁ s i.2) t, λ s i. rw (like₂ s i.2) t))
      (λ n. inr (λ s i. rw (like₁ s i.2) (not_T (l e) n), λ s i. rw (like₂ s i.2) (not_T (l e) n)))
    where
      like₁ : (s : ℕ) → T (m₁ c s) → marks_into M₁ mark₁ s e ≡ l e
      like₁ s t = ⊎_elim (λ r. u₁ s r e) (λ k. sym (k e)) (led.like₁ s (rw (e₁ s) t))

      like₂ : (s : ℕ) → T (m₂ c s) → marks_into M₂ mark₂ s e ≡ l e
      like₂ s t = ⊎_elim (λ r. u₂ s r e) (λ k. sym (k e)) (led.like₂ s (rw (e₂ s) t))

  -- in r one is
  module _ (r : ℕ) where
    abbrev x₁ : ℕ → Bool
    x₁ s = marks_into M₁ mark₁ s r

    abbrev x₂ : ℕ → Bool
    x₂ s = marks_into M₂ mark₂ s r

    module _ (o : OfNodes M₁ M₂ m₁ m₂ c) where
      at₁ : (s : ℕ) → T (row₁ s) → In M₁ m₁ c s
      unfolding In OfNodes
      at₁ s t = let i = rw (e₁ s) at t in (low₁ s t, o.0 s i, i)

      at₂ : (s : ℕ) → T (row₂ s) → In M₂ m₂ c s
      unfolding In OfNodes
      at₂ s t = let i = rw (e₂ s) at t in (low₂ s t, o.1 s i, i)

      -- a node on the leader's side, and one on the other
      lead-meets : (y : Bool → Bool) → T (y (l r)) → Meets M₁ M₂ m₁ m₂ c (λ s. y (x₁ s)) (λ t. y (x₂ t))
      unfolding Meets
      lead-meets y t =
          ⊎_elim (λ k. inl (k.0, at₁ k.0 k.1, subst (λ (b : Bool). T (y b)) (k.2 r) t)) (λ k. inr (k.0, at₂ k.0 k.1, subst (λ (b : Bool). T (y b)) (k.2 r) t)) led.leads

      split_by : ((y : Bool → Bool) → T (y (not (l r))) → Meets M₁ M₂ m₁ m₂ c (λ s. y (x₁ s)) (λ t. y (x₂ t))) → Split M₁ M₂ m₁ m₂ c x₁ x₂
      unfolding Split
      split_by other = by_cases (dec-test (l r))
          (λ t. (lead-meets (λ b. b) t, other not (not_T (not (l r)) (λ z. T_not (l r) z t))))
          (λ f. (other (λ b. b) (not_T (l r) f), lead-meets not (not_T (l r) f)))

    pub unlike-first : TellsUnlike M₁ mark₁ rest₁ l (Some r) → TellsMark M₁ M₂ m₁ m₂ mark₁ mark₂ c (Some r)
    unfolding Meets
    unlike-first k o = split_by o (λ y t. inl (k.0, at₁ o k.0 (led.fewer₁ k.0 k.1), subst (λ (b : Bool). T (y b)) (sym k.2) t))

    unlike-other : TellsUnlike M₂ mark₂ rest₂ l (Some r) → TellsMark M₁ M₂ m₁ m₂ mark₁ mark₂ c (Some r)
    unfolding Meets
    unlike-other k o = split_by o (λ y t. inr (k.0, at₂ o k.0 (led.fewer₂ k.0 k.1), subst (λ (b : Bool). T (y b)) (sym k.2) t))

  -- none of the first machine is
  pub unlike-second : (r : Option ℕ) → TellsUnlike M₁ mark₁ rest₁ l None → TellsUnlike M₂ mark₂ rest₂ l r → TellsMark M₁ M₂ m₁ m₂ mark₁ mark₂ c r
  unlike-second None v u = all-like v u
  unlike-second (Some r) v u = unlike-other r u
