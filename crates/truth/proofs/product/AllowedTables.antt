-- The table of where an automaton may go: one row more by the mask of its two positions, and all of them together.
use mathlib.Core.Path.{◌≡◌, refl, sym, ◌∙◌}
use mathlib.Core.Logic.{◌↔◌, ⊎_elim}
use Prim.Native.Nat.{ℕ, ◌+◌, ◌%◌, ◌^◌, ◌≤◌, ◌<◌}
use native.Mathlib.Omega.{arith}
use mathlib.Core.List.{List}
use mathlib.Core.Bool.{Bool, true, not, ◌&&◌}
use lib.ListN.{length, get_or, set}
use lib.Dec.{T, T_not, eqb, eqb→eq, eqb_refl}
use Rattle.sheets.specs.Words.{bit, each}
use Rattle.sheets.specs.inner.Positions.{some_below}
use Rattle.sheets.specs.Structures.{Automaton}
use Rattle.sheets.proofs.Tests.{and_left, and_right, and_both, test}
use Rattle.sheets.proofs.Search.{le-or-gt}
use Rattle.sheets.proofs.Bits.{no-bit}
use Rattle.sheets.proofs.Positions.{same_tests, below_split, some_at, some_in}
use Rattle.truth.specs.Sizes.{members_most, positions_most, table_words, low_at, high_at, cell}
use Rattle.truth.specs.inner.Rows.{held, rows_has}
use Rattle.truth.specs.inner.Pairs.{NoRow}
use Rattle.truth.specs.inner.Links.{Joined}
use Rattle.truth.specs.inner.Product.{agrees, argument_at, Allowed, Drawn, MaskSet}
use Rattle.truth.proofs.rows.RowLaws.{held_in, none_passes}
use Rattle.truth.proofs.tables.TableLaws.{stored_here, stored_other, stored-length}
use Rattle.truth.proofs.tables.LinkedSets.{linked-more}
use Rattle.truth.proofs.product.ValuationRows.{row_inside, row_at}

-- ---- one mask

-- it draws nothing
mask-still : (table : List ℕ) (mask p k : ℕ) (allow into onto : List ℕ) → ((s : ℕ) → Drawn table mask s → ⊥) → NoRow allow (cell p k)
    → MaskSet table mask p k allow into onto allow into onto
mask-still table mask p k allow into onto still none = record {
  size = refl;
  here = λ s. (λ x. absurd (none s x), λ d. absurd (still s d));
  other = λ q s n. refl;
  enters = λ t l m n g. g;
  leaves = λ t l m n g. g;
}

pub mask-zero : (table : List ℕ) (mask p k : ℕ) (allow into onto : List ℕ) → mask ≡ 0 → NoRow allow (cell p k) → MaskSet table mask p k allow into onto allow into onto
mask-zero table mask p k allow into onto e = mask-still table mask p k allow into onto (λ s d. no-bit d.0 (rw e at d.1))

module _ (table : List ℕ) (mask p k : ℕ) (few : p < positions_most) (few' : k < positions_most) (allow : List ℕ) (size : length allow ≡ table_words) (into onto : List ℕ) (a b : ℕ)
    (row : (s : ℕ) → T (held a b s) ↔ Drawn table mask s) where
  pub mask-none : NoRow allow (cell p k) → true ≡ each members_most (λ s. not (held a b s)) → MaskSet table mask p k allow into onto allow into onto
  mask-none none e = mask-still table mask p k allow into onto (λ s d. none_passes (held a b) (held_in a b) (sym e) s ((row s).1 d)) none

  pub mask-more : (allow' into' onto' : List ℕ) → allow' ≡ set (set allow (low_at (cell p k)) a) (high_at (cell p k)) b → Joined k (p + 1) into into'
      → Joined p (k + 1) onto onto' → MaskSet table mask p k allow into onto allow' into' onto'
  mask-more allow' into' onto' e to from = record {
    size = rw e (stored-length allow (cell p k) a b fits);
    here = λ s. rw (e, stored_here allow (cell p k) a b fits s) (row s);
    other = other;
    enters = λ t l m n g. linked-more (λ k q. cell q k) g allow' k p m l other (λ i j x y q. (omega arith, omega arith)) to;
    leaves = λ t l m n g. linked-more cell g allow' p k n l other (λ i j x y q. (omega arith, omega arith)) from;
  }
    where
      fits : high_at (cell p k) < length allow
      fits = rw size (omega arith)

      other : (q s : ℕ) → (q ≡ cell p k → ⊥) → rows_has allow' q s ≡ rows_has allow q s
      other q s n = rw e (stored_other allow (cell p k) a b fits q s n)

-- what a mask draws is in the row of a valuation of v variables
module _ (table : List ℕ) (v : ℕ) (empty : (w : ℕ) → 2 ^ v ≤ w → NoRow table w) (mask s : ℕ) where
  drawn-some : Drawn table mask s → T (some_below (2 ^ v) (λ w. bit mask w && rows_has table w s))
  drawn-some r =
      ⊎_elim (λ le. absurd (empty r.0 le s r.2))
      (λ lt. some_in (λ w. bit mask w && rows_has table w s) (2 ^ v) r.0 lt (and_both (bit mask r.0) (rows_has table r.0 s) r.1 r.2)) (le-or-gt (2 ^ v) r.0)

  drawn-is : (x : Bool) → T x ↔ Drawn table mask s → x ≡ some_below (2 ^ v) (λ w. bit mask w && rows_has table w s)
  drawn-is x is =
      same_tests x (some_below (2 ^ v) (λ w. bit mask w && rows_has table w s)) (λ t. drawn-some (is.0 t))
      (λ t. let r = some_at (λ w. bit mask w && rows_has table w s) (2 ^ v) t in
      is.1 (r.0, and_left (bit mask r.0) (rows_has table r.0 s) r.2, and_right (bit mask r.0) (rows_has table r.0 s) r.2))

-- ---- the whole table

-- the rows below i are made, where they are of two positions below t; every row has nodes of the valuations' rows alone
pub record Built (masks table : List ℕ) (v t i : ℕ) (out : List ℕ) : Type 0 where
  pub size : length out ≡ table_words
  pub row : (n s : ℕ) → n < i → n % positions_most < t → rows_has out n s ≡ some_below (2 ^ v) (λ w. bit (get_or masks n 0) w && rows_has table w s)
  pub inside : (n s : ℕ) → T (rows_has out n s) → T (some_below (2 ^ v) (λ w. rows_has table w s))
  pub rest : (n : ℕ) → i ≤ n → NoRow out n

module _ (masks table : List ℕ) (v t : ℕ) where
  -- the row from position p to position k too
  pub built-more : (p k : ℕ) (now : List ℕ) → Built masks table v t (cell p k) now → (after into onto into' onto' : List ℕ) → ((w : ℕ) → 2 ^ v ≤ w → NoRow table w)
      → MaskSet table (get_or masks (cell p k) 0) p k now into onto after into' onto' → Built masks table v t (cell p (k + 1)) after
  built-more p k now b after into onto into' onto' empty one = record {
    size = one.size ∙ b.size;
    row = λ n s l h. ⊎_elim (λ lt. one.other n s (λ e. omega arith) ∙ b.row n s lt h) (λ e. rw e (drawn-is table v empty (get_or masks i 0) s _ (one.here s))) (below_split i n (omega arith));
    inside = λ n s x. ⊎_elim (λ e. set-row n s (eqb→eq n i e) x) (λ d. b.inside n s (rw (one.other n s (λ e. T_not (eqb n i) d (rw e (eqb_refl i)))) at x)) (test (eqb n i));
    rest = λ n l s x. b.rest n (omega arith) s (rw (one.other n s (λ e. omega arith)) at x);
  }
    where
      i : ℕ
      i = cell p k

      set-row : (n s : ℕ) → n ≡ i → T (rows_has after n s) → T (some_below (2 ^ v) (λ w. rows_has table w s))
      set-row n s e x =
          let mask = get_or masks i 0 in
          let r = some_at (λ w. bit mask w && rows_has table w s) (2 ^ v) (drawn-some table v empty mask s ((one.here s).0 (rw e at x))) in
          some_in (λ w. rows_has table w s) (2 ^ v) r.0 r.1 (and_right (bit mask r.0) (rows_has table r.0 s) r.2)

-- it is the table that is asked for
pub built-allowed : (masks table rows : List ℕ) (arg : ℕ → ℕ) (all : ℕ → Bool) (v t : ℕ) (out : List ℕ) → t ≤ positions_most
    → ((w s : ℕ) → w < 2 ^ v → rows_has table w s ≡ (all s && agrees v w (argument_at rows arg s))) → Built masks table v t (cell t 0) out
    → (A : Automaton) → v ≡ A.variables → ((p q w : ℕ) → p < t → q < t → bit (get_or masks (cell p q) 0) w ≡ A.goes (p + 1) w (q + 1))
    → Allowed A t rows arg all out
built-allowed masks table rows arg all v t out few valued b A e at = record {
  inside = λ k s h. row_inside v (argument_at rows arg s) (all s) (λ w. rows_has table w s) (λ w l. valued w s l) (b.inside k s h);
  goes = λ p p' s w l l' k g h.
      b.row (cell p p') s (omega arith) (omega arith)
      ∙ row_at v (argument_at rows arg s) (all s) (λ u. rows_has table u s) (λ u m. valued u s m) w (rw (← e) at k) (rw (← e) at g) h
      (bit (get_or masks (cell p p') 0))
      ∙ at p p' w l l';
}
