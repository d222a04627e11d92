-- Blocks in tables: a row parted by two stores, the lines of the two parts, and what the rows tell of a block and two sets.
use mathlib.Core.Path.{◌≡◌, sym, subst, ◌∙◌}
use mathlib.Core.Logic.{inl, inr, ⊎_elim}
use Prim.Native.Nat.{ℕ, ◌+◌, ◌*◌, ◌≤◌, ◌<◌}
use native.Mathlib.Omega.{arith}
use mathlib.Core.List.{List}
use mathlib.Core.Bool.{Bool, true, false, not, ◌&&◌, true≢false}
use borrow.Author.Tests.{not-false}
use lib.ListN.{length, get_or, set, length-set}
use lib.Seq.{get_or-set_same, get_or-set_other}
use lib.Dec.{T, T_not, not_T}
use Rattle.truth.specs.Sizes.{row_words, members_most}
use Rattle.truth.specs.Passed.{each, within}
use Rattle.truth.specs.inner.Rows.{rows_has}
use Rattle.truth.proofs.Passed.{and_both, and_left, and_right, surely, find, within_in, each_at, each_in}
use Rattle.truth.proofs.rows.RowLaws.{held_in}
use Rattle.comparison.specs.inner.Sizes.{block_places}
use Rattle.comparison.specs.inner.Blocks.{In, AllIn, Meets, Unsplit, Split}
use Rattle.comparison.specs.inner.Tables.{LinedBlocks, OfNodes, TellsMeets, TellsSplit}

-- ---- parting

pub lined-blocks : (l : List ℕ) (count c n : ℕ) → c < count → count < block_places → length l ≡ block_places
    → LinedBlocks count c n l (set (set l c (n + 4)) count (n + 6))
lined-blocks l count c n low high size = record {
  size = simp length-set size;
  lined = record {
    here = get_or-set_other (set l c (n + 4)) count c (n + 6) 0 (λ e. omega arith) ∙ get_or-set_same l c (n + 4) 0 (omega arith);
    added = get_or-set_same (set l c (n + 4)) count (n + 6) 0 (rw length-set (omega arith));
    others = λ d h f. get_or-set_other (set l c (n + 4)) count d (n + 6) 0 (λ e. omega arith) ∙ get_or-set_other l c d (n + 4) 0 f;
  };
}

-- ---- what rows tell

-- two rows meet, or not
some-both : (p x : ℕ → Bool) → not (each members_most (λ s. not (p s && x s))) ≡ true → (s : ℕ) × (1 ≤ s) × T (p s) × T (x s)
some-both p x e =
    ⊎_elim (λ f. (f.0, f.1, and_left (p f.0) (x f.0) f.3, and_right (p f.0) (x f.0) f.3))
    (λ none. absurd (T_not (each members_most (λ s. not (p s && x s))) (subst T (sym e) tt) (each_in members_most (λ s. not (p s && x s)) none)))
    (find members_most (λ s. p s && x s))

none_both : (p x : ℕ → Bool) → not (each members_most (λ s. not (p s && x s))) ≡ false → (s : ℕ) → 1 ≤ s → s ≤ members_most → T (p s) → T (x s) → ⊥
none_both p x e s lo hi t u =
    let all : T (each members_most (λ s. not (p s && x s))) = rw (not-false (each members_most (λ s. not (p s && x s))) e) tt in
    T_not (p s && x s) (each_at members_most (λ s. not (p s && x s)) all s lo hi) (and_both (p s) (x s) t u)

module _ (M₁ M₂ B₁ B₂ : List ℕ) (c : ℕ) (p₁ p₂ x₁ x₂ : ℕ → Bool) (r₁ : Bool) (e₁ : (s : ℕ) → p₁ s ≡ rows_has B₁ c s) (f₁ : r₁ ≡ not (each members_most (λ s. not (p₁ s && x₁ s)))) where
  pub meets-first : r₁ ≡ true → TellsMeets M₁ M₂ (rows_has B₁) (rows_has B₂) c x₁ x₂ true
  unfolding Meets In OfNodes
  meets-first y = record {
    no = λ z. absurd (true≢false z);
    yes = λ z i. let m = some-both p₁ x₁ (sym f₁ ∙ y) in let t = subst T (e₁ m.0) m.2 in inl (m.0, (m.1, i.0 m.0 t, t), m.3);
  }

  pub meets-second : r₁ ≡ false → (r₂ : Bool) → ((s : ℕ) → p₂ s ≡ rows_has B₂ c s) → r₂ ≡ not (each members_most (λ s. not (p₂ s && x₂ s)))
      → TellsMeets M₁ M₂ (rows_has B₁) (rows_has B₂) c x₁ x₂ r₂
  unfolding Meets In OfNodes
  meets-second n r₂ e₂ f₂ = record {
    no = λ z. ⊎_elim
        (λ y. let h = held_in (get_or B₁ (row_words * c) 0) (get_or B₁ (row_words * c + 1) 0) y.0 y.1.2 in none_both p₁ x₁ (sym f₁ ∙ n) y.0 h.0 h.1 (subst T (sym (e₁ y.0)) y.1.2) y.2)
        (λ y. let h = held_in (get_or B₂ (row_words * c) 0) (get_or B₂ (row_words * c + 1) 0) y.0 y.1.2 in none_both p₂ x₂ (sym f₂ ∙ z) y.0 h.0 h.1 (subst T (sym (e₂ y.0)) y.1.2) y.2);
    yes = λ z i. let m = some-both p₂ x₂ (sym f₂ ∙ z) in let t = subst T (e₂ m.0) m.2 in inr (m.0, (m.1, i.1 m.0 t, t), m.3);
  }

module _ (M₁ M₂ B₁ B₂ : List ℕ) (c : ℕ) (x₁ x₂ : ℕ → Bool) (r : Bool) (in-sets : TellsMeets M₁ M₂ (rows_has B₁) (rows_has B₂) c x₁ x₂ r) where
  -- no node in the sets
  pub tells_none : r ≡ false → TellsSplit M₁ M₂ (rows_has B₁) (rows_has B₂) c x₁ x₂ false
  unfolding Unsplit AllIn Meets
  tells_none n = record {
    no = λ z. inr (λ s i. not_T (x₁ s) (λ t. in-sets.no n (inl (s, i, t))), λ s i. not_T (x₂ s) (λ t. in-sets.no n (inr (s, i, t))));
    yes = λ z. absurd (true≢false (sym z));
  }

  -- y₁ and y₂ are their complements
  pub tells_both : r ≡ true → (y₁ y₂ : ℕ → Bool) → ((s : ℕ) → y₁ s ≡ (within 1 members_most s && not (x₁ s))) → ((s : ℕ) → y₂ s ≡ (within 1 members_most s && not (x₂ s)))
      → (q : Bool) → TellsMeets M₁ M₂ (rows_has B₁) (rows_has B₂) c y₁ y₂ q → TellsSplit M₁ M₂ (rows_has B₁) (rows_has B₂) c x₁ x₂ q
  unfolding Unsplit AllIn Split Meets In
  tells_both y y₁ y₂ e₁ e₂ q out = record {
    no = λ z. inl (
      λ s i. surely (x₁ s) (λ n. out.no z (inl (s, i, subst T (sym (e₁ s)) (and_both (within 1 members_most s) (not (x₁ s)) (in_row B₁ s i.2) n)))),
      λ s i. surely (x₂ s) (λ n. out.no z (inr (s, i, subst T (sym (e₂ s)) (and_both (within 1 members_most s) (not (x₂ s)) (in_row B₂ s i.2) n)))),
    );
    yes = λ z i. (
      in-sets.yes y i,
      ⊎_elim
          (λ m. inl (m.0, m.1, and_right (within 1 members_most m.0) (not (x₁ m.0)) (subst T (e₁ m.0) m.2)))
          (λ m. inr (m.0, m.1, and_right (within 1 members_most m.0) (not (x₂ m.0)) (subst T (e₂ m.0) m.2))) (out.yes z i),
    );
  }
    where
      in_row : (B : List ℕ) (s : ℕ) → T (rows_has B c s) → T (within 1 members_most s)
      in_row B s t = let h = held_in (get_or B (row_words * c) 0) (get_or B (row_words * c + 1) 0) s t in within_in 1 members_most s h.0 h.1
