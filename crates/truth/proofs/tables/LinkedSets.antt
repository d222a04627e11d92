-- Sets of positions: one member more; a set that knows each position that a table allows still does after one row and one member more;
-- and some position below t is some member.
use mathlib.Core.Path.{◌≡◌, ◌∙◌}
use mathlib.Core.Logic.{⊎_elim, by_cases}
use Prim.Native.Nat.{ℕ, ◌+◌, ◌-◌, ◌*◌, ◌≤◌, ◌<◌}
use native.Mathlib.Omega.{arith}
use native.Mathlib.Decide.{ℕ_discrete}
use mathlib.Core.List.{List}
use mathlib.Core.Bool.{◌&&◌, ◌||◌}
use lib.ListN.{length, set}
use lib.Dec.{T, eqb, eqb→eq, eqb_refl}
use Rattle.sheets.specs.Words.{within}
use Rattle.sheets.proofs.Tests.{and_right, and_both, or_left, or_right, or_cases}
use Rattle.sheets.proofs.Search.{within_in}
use Rattle.truth.specs.Sizes.{row_words, positions_most, members_most, set_words}
use Rattle.truth.specs.inner.Rows.{held, rows_has}
use Rattle.truth.specs.inner.Pairs.{NoRow}
use Rattle.truth.specs.inner.Links.{Joined, Linked, Among}
use Rattle.truth.specs.inner.Trimmed.{SomeBelow}
use Rattle.truth.proofs.rows.RowLaws.{held_in}
use Rattle.truth.proofs.tables.TableLaws.{stored-length, stored_more}

-- the words of row k with one member more
pub joined : (B C : List ℕ) (k s a b : ℕ) → row_words * k + 1 < length B → C ≡ set (set B (row_words * k) a) (row_words * k + 1) b
    → ((i : ℕ) → held a b i ≡ (rows_has B k i || (within 1 members_most s && eqb i s))) → Joined k s B C
joined B C k s a b h e more = rw e (record { size = stored-length B k a b h; rows = stored_more B k a b h (λ i. within 1 members_most s && eqb i s) more })

module _ (place : ℕ → ℕ → ℕ) where
  -- nothing is allowed, and no set has a member
  pub linked-none : (allow sets : List ℕ) (t : ℕ) → length sets ≡ set_words → ((p : ℕ) → NoRow allow p) → ((p : ℕ) → NoRow sets p) → Linked place allow sets t
  linked-none allow sets t size none empty = record {
    size = size;
    few = λ k u x. absurd (empty k u x);
    all = λ k q s l m x. absurd (none (place k q) s x);
  }

  -- row `place k q` was changed, and position q is a member of row k then
  module _ {allow sets : List ℕ} {t : ℕ} (g : Linked place allow sets t) (allow' : List ℕ) {sets' : List ℕ} (k q : ℕ) (l : q < t) (few : t ≤ positions_most)
      (other : (i s : ℕ) → (i ≡ place k q → ⊥) → rows_has allow' i s ≡ rows_has allow i s)
      (one : (a b : ℕ) → a < t → b < t → place a b ≡ place k q → (a ≡ k) × (b ≡ q)) (more : Joined k (q + 1) sets sets') where
    was : (a u : ℕ) → T (rows_has sets a u) → T (rows_has sets' a u)
    was a u x = rw (more.rows a u) (or_left (rows_has sets a u) (eqb a k && (within 1 members_most (q + 1) && eqb u (q + 1))) x)

    here : T (rows_has sets' k (q + 1))
    here =
        rw (more.rows k (q + 1))
        (or_right (rows_has sets k (q + 1)) (eqb k k && (within 1 members_most (q + 1) && eqb (q + 1) (q + 1)))
        (and_both (eqb k k) (within 1 members_most (q + 1) && eqb (q + 1) (q + 1)) (eqb_refl k)
        (and_both (within 1 members_most (q + 1)) (eqb (q + 1) (q + 1)) (within_in 1 members_most (q + 1) (omega arith) (omega arith)) (eqb_refl (q + 1)))))

    new-few : (a u : ℕ) → T (eqb a k && (within 1 members_most (q + 1) && eqb u (q + 1))) → u ≤ t
    new-few a u y =
        let e = eqb→eq u (q + 1) (and_right (within 1 members_most (q + 1)) (eqb u (q + 1)) (and_right (eqb a k) (within 1 members_most (q + 1) && eqb u (q + 1)) y)) in
        omega arith

    pub linked-more : Linked place allow' sets' t
    linked-more = record {
      size = more.size ∙ g.size;
      few = λ a u x. ⊎_elim (g.few a u) (new-few a u) (or_cases (rows_has sets a u) (eqb a k && (within 1 members_most (q + 1) && eqb u (q + 1))) (rw (more.rows a u) at x));
      all = λ a b s la lb x.
          by_cases (ℕ_discrete (place a b) (place k q)) (λ e. let r = one a b la lb e in rw (r.0, r.1) here)
          (λ n. was a (b + 1) (g.all a b s la lb (rw (other (place a b) s n) at x)));
    }

  module _ {allow sets : List ℕ} {t : ℕ} (g : Linked place allow sets t) (k : ℕ) (P : ℕ → Type 0) where
    pub among_below : Among (rows_has sets k) P → SomeBelow t P
    among_below r = let w = held_in _ _ r.0 r.1 in (r.0 - 1, omega (arith, g.few k r.0 r.1), r.2)

    pub below-among : k < t → ((q : ℕ) → P q → (s : ℕ) × T (rows_has allow (place k q) s)) → SomeBelow t P → Among (rows_has sets k) P
    below-among l allowed r =
        let e : r.0 + 1 - 1 ≡ r.0 = omega arith in
        let a = allowed r.0 r.2 in
        (r.0 + 1, g.all k r.0 a.0 l r.1 a.1, rw e r.2)
