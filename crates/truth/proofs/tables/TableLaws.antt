-- Tables: rows that were loaded and stored, a table filled row after row, and a number stored by pair, 128 a position.
use mathlib.Core.Path.{◌≡◌, refl, ◌∙◌}
use mathlib.Core.Logic.{by_cases}
use Prim.Native.Nat.{ℕ, zero, suc, ◌+◌, ◌*◌, ◌≤◌, ◌<◌}
use native.Mathlib.Omega.{arith}
use native.Mathlib.Decide.{ℕ_discrete}
use mathlib.Core.List.{List}
use mathlib.Core.Bool.{Bool, false, ◌&&◌, ◌||◌, and-true, and-false, or-false}
use borrow.Author.Count.{below_more}
use lib.ListN.{length, get_or, set, length-set, replicate}
use lib.Seq.{get_or-set_same, get_or-set_other}
use lib.Dec.{eqb}
use Rattle.sheets.proofs.Tests.{eqb_same, eqb-other}
use Rattle.truth.specs.Sizes.{row_words, members_most, pair_at}
use Rattle.truth.specs.inner.Rows.{held, row_has, rows_has}
use Rattle.truth.specs.inner.Pairs.{NoRow, Cleared, time_of}
use Rattle.truth.specs.declared.rows.Row.{Row}
use Rattle.truth.proofs.rows.RowLaws.{held_none}

pub loaded : (B : List ℕ) (r : Row) (p q s : ℕ) → (r.low ≡ get_or B (row_words * p) 0) × (r.high ≡ get_or B (row_words * p + 1) 0) → q ≡ p → row_has r s ≡ rows_has B q s
loaded B r p q s l e = rw (l.0, l.1, e)

-- ---- a new table

pub zero_word : (n i : ℕ) → ◌≡◌ {A = ℕ} (get_or (replicate n 0) i 0) 0
zero_word zero i = refl
zero_word (suc n) zero = refl
zero_word (suc n) (suc i) = zero_word n i

pub zero_row : (n p s : ℕ) → rows_has (replicate n 0) p s ≡ false
zero_row n p s = rw (zero_word n (row_words * p), zero_word n (row_words * p + 1)) (held_none s)

-- ---- a row stored
module _ (B : List ℕ) (p a b : ℕ) (h : row_words * p + 1 < length B) where
  abbrev pub stored : List ℕ
  stored = set (set B (row_words * p) a) (row_words * p + 1) b

  stored_low : get_or stored (row_words * p) 0 ≡ a
  stored_low = get_or-set_other (set B (row_words * p) a) (row_words * p + 1) (row_words * p) b 0 (λ e. omega arith) ∙ get_or-set_same B (row_words * p) a 0 (omega arith)

  stored-high : get_or stored (row_words * p + 1) 0 ≡ b
  stored-high = get_or-set_same (set B (row_words * p) a) (row_words * p + 1) b 0 (rw (length-set B (row_words * p) a) h)

  pub stored-word : (k : ℕ) → (k ≡ row_words * p → ⊥) → (k ≡ row_words * p + 1 → ⊥) → get_or stored k 0 ≡ get_or B k 0
  stored-word k n m = get_or-set_other (set B (row_words * p) a) (row_words * p + 1) k b 0 m ∙ get_or-set_other B (row_words * p) k a 0 n

  pub stored-length : length stored ≡ length B
  stored-length = simp length-set

  pub stored_here : (s : ℕ) → rows_has stored p s ≡ held a b s
  stored_here s = rw (stored_low, stored-high)

  pub stored_other : (q s : ℕ) → (q ≡ p → ⊥) → rows_has stored q s ≡ rows_has B q s
  stored_other q s n = rw (stored-word (row_words * q) (λ e. n (omega arith)) (λ e. omega arith), stored-word (row_words * q + 1) (λ e. omega arith) (λ e. n (omega arith)))

  -- with more nodes
  pub stored_more : (x : ℕ → Bool) → ((s : ℕ) → held a b s ≡ (rows_has B p s || x s)) → (q s : ℕ) → rows_has stored q s ≡ (rows_has B q s || (eqb q p && x s))
  stored_more x more q s =
      by_cases (ℕ_discrete q p) (λ e. rw (e, eqb_same p) (stored_here s ∙ more s))
      (λ n. rw (eqb-other q p n, or-false (rows_has B q s)) (stored_other q s n))

-- and with none
pub emptied : (B C : List ℕ) (p a b : ℕ) → row_words * p + 1 < length B → C ≡ set (set B (row_words * p) a) (row_words * p + 1) b → ((s : ℕ) → held a b s ≡ false) → Cleared p B C
emptied B C p a b h e none =
    rw e (record {
      size = stored-length B p a b h;
      rows = λ q s. by_cases (ℕ_discrete q p) (λ e. rw (e, eqb_same p, and-false (rows_has B p s)) (stored_here B p a b h s ∙ none s))
          (λ n. rw (eqb-other q p n, and-true (rows_has B q s)) (stored_other B p a b h q s n));
    })

-- ---- a table of z words filled row after row: P says what the node s is in row i
pub record Filled (z : ℕ) (P : ℕ → ℕ → Bool → Type 0) (k : ℕ) (B : List ℕ) : Type 0 where
  pub size : length B ≡ z
  pub rows : (i s : ℕ) → i < k → P i s (rows_has B i s)

module _ {z : ℕ} (P : ℕ → ℕ → Bool → Type 0) (B : List ℕ) where
  pub filled_none : length B ≡ z → Filled z P 0 B
  filled_none e = record { size = e; rows = λ i s l. absurd (omega arith) }

  pub filled_more : (C : List ℕ) (k a b : ℕ) → Filled z P k B → row_words * k + 1 < z → C ≡ set (set B (row_words * k) a) (row_words * k + 1) b → ((s : ℕ) → P k s (held a b s))
      → Filled z P (k + 1) C
  filled_more C k a b f z e here =
      rw e (record {
        size = stored-length B k a b fits ∙ f.size;
        rows = λ i s l. below_more (λ i. (s : ℕ) → P i s (rows_has (stored B k a b fits) i s)) k
            (λ i l s. rw (stored_other B k a b fits i s (λ q. omega arith)) (f.rows i s l)) (λ s. rw (stored_here B k a b fits s) (here s)) i l s;
      })
    where
      fits : row_words * k + 1 < length B
      fits = omega (arith, f.size)

-- the rows after those stored are as empty as they were
pub empty-after : (B C : List ℕ) (k a b : ℕ) → row_words * k + 1 < length B → C ≡ set (set B (row_words * k) a) (row_words * k + 1) b → ((i : ℕ) → k ≤ i → NoRow B i)
    → (i : ℕ) → k + 1 ≤ i → NoRow C i
empty-after B C k a b h e none i l s x = none i (omega arith) s (rw (stored_other B k a b h i s (λ q. omega arith)) at (rw e at x))

-- ---- a number stored by pair
module _ (xs : List ℕ) (q v x : ℕ) where
  pub time-here : pair_at q v < length xs → time_of (set xs (pair_at q v) x) q v ≡ x
  time-here l = get_or-set_same xs (pair_at q v) x 0 l

  pub time-other : 1 ≤ v → v ≤ members_most → (p u : ℕ) → 1 ≤ u → u ≤ members_most → (p ≡ q → u ≡ v → ⊥) → time_of (set xs (pair_at q v) x) p u ≡ time_of xs p u
  time-other lo hi p u a b differ = get_or-set_other xs (pair_at q v) (pair_at p u) x 0 (λ e. differ (omega arith) (omega arith))
