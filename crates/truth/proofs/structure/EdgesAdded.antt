-- Predecessors from successors: a node added to the row of each of its successors, and so for one node after the other.
use mathlib.Core.Path.{◌≡◌, refl, ◌∙◌}
use mathlib.Core.Logic.{⊎_elim, by_cases}
use Prim.Native.Nat.{ℕ, ◌+◌, ◌-◌, ◌≤◌}
use native.Mathlib.Omega.{arith}
use native.Mathlib.Decide.{ℕ_discrete}
use mathlib.Core.List.{List}
use mathlib.Core.Bool.{Bool, false, not, ◌&&◌, ◌||◌, and-true, and-false, and_comm, or-false, or_assoc}
use borrow.Author.Tests.{le-leb, lt-leb}
use lib.ListN.{length, replicate}
use lib.Dec.{T, not_T, eqb, leb}
use Rattle.sheets.specs.Words.{within}
use Rattle.sheets.proofs.Tests.{passed, failed, eqb_same, eqb-other}
use Rattle.sheets.proofs.Search.{le-or-gt}
use Rattle.truth.specs.Sizes.{members_most, table_words}
use Rattle.truth.specs.inner.Rows.{rows_has}
use Rattle.truth.specs.inner.Links.{Joined, AddedBefore}
use Rattle.truth.proofs.rows.RowLaws.{not-in-row}
use Rattle.truth.proofs.rows.RowWalks.{Less, less-in, and-not}
use Rattle.truth.proofs.tables.TableLaws.{zero_row}

-- ---- one node, added to the rows of the members that are not left

-- whether i is the node that is added
abbrev one : ℕ → ℕ → Bool
one s i = within 1 members_most s && eqb i s

pub record Adding (set left : ℕ → Bool) (s : ℕ) (before after : List ℕ) : Type 0 where
  pub fewer : (u : ℕ) → T (left u) → T (set u)
  pub size : length after ≡ length before
  pub rows : (u i : ℕ) → 1 ≤ u → rows_has after (u - 1) i ≡ (rows_has before (u - 1) i || ((set u && not (left u)) && one s i))

module _ (set : ℕ → Bool) (s : ℕ) (before : List ℕ) where
  pub adding-none : Adding set set s before before
  adding-none = record {
    fewer = λ u t. t;
    size = refl;
    rows = λ u i lo. rw (and-not (set u) (one s i), or-false (rows_has before (u - 1) i));
  }

  module _ (left : ℕ → Bool) (now : List ℕ) (g : Adding set left s before now) where
    pub adding-end : ((u : ℕ) → T (left u) → ⊥) → AddedBefore set s before now
    adding-end none = record {
      size = g.size;
      rows = λ u i lo. g.rows u i lo ∙ rw (failed (left u) (not_T (left u) (none u)), and-true (set u));
    }

    pub adding-next : (left' : ℕ → Bool) (after : List ℕ) (u : ℕ) → Less left u left' → T (left u) → 1 ≤ u → Joined (u - 1) s now after → Adding set left' s before after
    adding-next left' after u less t from more = record {
      fewer = λ v x. g.fewer v (less-in left left' u less v x);
      size = more.size ∙ g.size;
      rows = λ v i lo.
          more.rows (v - 1) i
          ∙ rw (g.rows v i lo, or_assoc (rows_has before (v - 1) i) ((set v && not (left v)) && one s i) (eqb (v - 1) (u - 1) && one s i), join v i lo);
    }
      where
        join : (v i : ℕ) → 1 ≤ v → (((set v && not (left v)) && one s i) || (eqb (v - 1) (u - 1) && one s i)) ≡ ((set v && not (left' v)) && one s i)
        join v i lo = by_cases (ℕ_discrete v u) here other
          where
            here : v ≡ u → (((set v && not (left v)) && one s i) || (eqb (v - 1) (u - 1) && one s i)) ≡ ((set v && not (left' v)) && one s i)
            here e = rw (e, less u, passed (set u) (g.fewer u t), passed (left u) t, eqb_same u, eqb_same (u - 1))

            other : (v ≡ u → ⊥) → (((set v && not (left v)) && one s i) || (eqb (v - 1) (u - 1) && one s i)) ≡ ((set v && not (left' v)) && one s i)
            other n = rw (less v, eqb-other v u n, and-true (left v), eqb-other (v - 1) (u - 1) (λ e. n (omega arith)), or-false ((set v && not (left v)) && one s i))

-- ---- the nodes 1 to s, added to the rows of their successors

abbrev pub Earlier : List ℕ → ℕ → List ℕ → Type 0
Earlier next s out = (t i : ℕ) → 1 ≤ t → rows_has out (t - 1) i ≡ (leb i s && (within 1 members_most i && rows_has next (i - 1) t))

pub earlier-none : (next : List ℕ) → Earlier next 0 (replicate table_words 0)
earlier-none next t i lo = zero_row table_words (t - 1) i ∙ by_cases (ℕ_discrete i 0) first later
  where
    first : i ≡ 0 → false ≡ (leb i 0 && (within 1 members_most i && rows_has next (i - 1) t))
    first e = rw (not-in-row i e, and-false (leb i 0))

    later : (i ≡ 0 → ⊥) → false ≡ (leb i 0 && (within 1 members_most i && rows_has next (i - 1) t))
    later n = rw (lt-leb i 0 (omega arith))

pub earlier-next : (next out out' : List ℕ) (s : ℕ) (row : ℕ → Bool) → ((t : ℕ) → row t ≡ rows_has next s t) → Earlier next s out → AddedBefore row (s + 1) out out'
    → Earlier next (s + 1) out'
earlier-next next out out' s row is up added t i lo = by_cases (ℕ_discrete i (s + 1)) here other
  where
    here : i ≡ s + 1 → rows_has out' (t - 1) i ≡ (leb i (s + 1) && (within 1 members_most i && rows_has next (i - 1) t))
    here e =
        let h : s + 1 - 1 ≡ s = omega arith in
        rw e
        (added.rows t (s + 1) lo
        ∙ rw (up t (s + 1) lo, lt-leb (s + 1) s (omega arith), is t, eqb_same (s + 1), and-true (within 1 members_most (s + 1)), le-leb (s + 1) (s + 1) (omega arith), h)
        (and_comm (rows_has next s t) (within 1 members_most (s + 1))))

    other : (i ≡ s + 1 → ⊥) → rows_has out' (t - 1) i ≡ (leb i (s + 1) && (within 1 members_most i && rows_has next (i - 1) t))
    other n =
        added.rows t i lo
        ∙ rw (up t i lo, eqb-other i (s + 1) n, and-false (within 1 members_most (s + 1)), and-false (row t), or-false (leb i s && (within 1 members_most i && rows_has next (i - 1) t)), same)
      where
        same : leb i s ≡ leb i (s + 1)
        same =
            ⊎_elim (λ le. rw (le-leb i s le, le-leb i (s + 1) (omega arith))) (λ gt. rw (lt-leb i s gt, lt-leb i (s + 1) (omega arith))) (le-or-gt i s)
