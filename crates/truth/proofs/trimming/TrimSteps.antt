-- How the code looks for a step into a set of pairs: by the positions that one may go to, and by whether two rows meet.
use mathlib.Core.Path.{◌≡◌, sym, ◌∙◌}
use mathlib.Core.Logic.{◌↔◌, ⊎_elim}
use Prim.Native.Nat.{ℕ, ◌+◌, ◌-◌, ◌*◌, ◌<◌}
use mathlib.Core.List.{List}
use mathlib.Core.Bool.{Bool, true, not, ◌&&◌, ◌||◌}
use lib.ListN.{get_or}
use lib.Dec.{T, not_T}
use Rattle.sheets.specs.Words.{each}
use Rattle.sheets.proofs.Tests.{passed, failed, and_left, and_right, and_both, or_left, or_right, or_cases}
use Rattle.truth.specs.Sizes.{row_words, members_most, low_at, high_at, cell}
use Rattle.truth.specs.inner.Rows.{held, rows_has}
use Rattle.truth.specs.inner.Pairs.{Onward}
use Rattle.truth.specs.inner.Links.{Among}
use Rattle.truth.specs.inner.Trimmed.{SomeBelow, Common, Meeting}
use Rattle.truth.proofs.rows.RowLaws.{held_in, none_passes, one_passes}
use Rattle.truth.proofs.rows.RowWalks.{Less, Visited, visited-next}

-- ---- rows that meet
pub meet-is : (a b c d : ℕ) (r : Bool) → r ≡ not (each members_most (λ s. not (held a b s && held c d s))) → T r ↔ Common (held a b) (held c d)
meet-is a b c d r e = (
  λ t.
      let f = one_passes both (failed none (rw e at t)) in
      (f.0, and_left (held a b f.0) (held c d f.0) f.3, and_right (held a b f.0) (held c d f.0) f.3),
  λ x.
      rw e (not_T none (λ t.
      none_passes both (λ s y. held_in a b s (and_left (held a b s) (held c d s) y)) (passed none t) x.0 (and_both (held a b x.0) (held c d x.0) x.1 x.2))),
)
  where
    both : ℕ → Bool
    both s = held a b s && held c d s

    none : Bool
    none = each members_most (λ s. not (both s))

-- ---- where position p may go to k, and row k of a table has the node
abbrev pub Through : List ℕ → List ℕ → ℕ → ℕ → ℕ → Type 0
Through allow table p s k = T (rows_has allow (cell p k) s) × T (rows_has table k s)

-- `out` has the nodes of the positions that are not left
pub record Passing (allow table : List ℕ) (p : ℕ) (from left out : ℕ → Bool) : Type 0 where
  pub visited : Visited (λ u. (s : ℕ) → Through allow table p s (u - 1) → T (out s)) from left
  pub found : (s : ℕ) → T (out s) → Among from (Through allow table p s)

module _ (allow table : List ℕ) (p : ℕ) (from : ℕ → Bool) where
  module _ (left out : ℕ → Bool) (g : Passing allow table p from left out) where
    pub passing-next : (left' out' step : ℕ → Bool) (u a b c d : ℕ) → T (left u) → Less left u left' → ((s : ℕ) → out' s ≡ (out s || step s))
        → ((s : ℕ) → step s ≡ (held a b s && held c d s)) → a ≡ get_or allow (low_at (cell p (u - 1))) 0 → b ≡ get_or allow (high_at (cell p (u - 1))) 0
        → c ≡ get_or table (row_words * (u - 1)) 0 → d ≡ get_or table (row_words * (u - 1) + 1) 0 → Passing allow table p from left' out'
    passing-next left' out' step u a b c d t less e f ea eb ec ed = record {
      visited = visited-next _ from left g.visited _ left' u less (λ v y s x. rw (whole s) (or_left (out s) (step_is s) (y s x)))
          (λ s x. rw (whole s) (or_right (out s) (step_is s) (and_both (rows_has allow (cell p (u - 1)) s) (rows_has table (u - 1) s) x.0 x.1)));
      found = λ s x.
          ⊎_elim (g.found s)
          (λ y. (u, g.visited.fewer u t, (and_left (rows_has allow (cell p (u - 1)) s) (rows_has table (u - 1) s) y, and_right (rows_has allow (cell p (u - 1)) s) (rows_has table (u - 1) s) y)))
          (or_cases (out s) (step_is s) (rw (whole s) at x));
    }
      where
        step_is : ℕ → Bool
        step_is s = rows_has allow (cell p (u - 1)) s && rows_has table (u - 1) s

        whole : (s : ℕ) → out' s ≡ (out s || step_is s)
        whole s = e s ∙ rw (f s, ea, eb, ec, ed)

-- ---- at s the automaton may go from p to k, whose row has a node of the two words
module _ (allow xs : List ℕ) (e f p s k a b : ℕ) (h : Bool) (ea : a ≡ get_or allow (low_at (cell p k)) 0) (eb : b ≡ get_or allow (high_at (cell p k)) 0) (has : h ≡ held a b s) where
  allowed-is : h ≡ rows_has allow (cell p k) s
  allowed-is = has ∙ rw (ea, eb)

  module _ (c d : ℕ) (m : Bool) (ec : c ≡ get_or xs (row_words * k) 0) (ed : d ≡ get_or xs (row_words * k + 1) 0) (meets : m ≡ not (each members_most (λ u. not (held e f u && held c d u)))) where
    common-is : T m ↔ Common (held e f) (rows_has xs k)
    common-is = rw (ec, ed) at (meet-is e f c d m meets)

    -- where it may, it meets what the row meets
    pub meeting-is : h ≡ true → T m ↔ Meeting allow xs (held e f) p s k
    meeting-is y = (λ z. (rw (sym allowed-is ∙ y) tt, common-is.0 z), λ r. common-is.1 r.1)

-- ---- a step is a meeting with the successors
module _ (allow next xs : List ℕ) (t p s e f : ℕ) (ee : e ≡ get_or next (row_words * (s - 1)) 0) (ef : f ≡ get_or next (row_words * (s - 1) + 1) 0) where
  pub meeting-onward : SomeBelow t (Meeting allow xs (held e f) p s) → Onward allow next t (rows_has xs) p s
  meeting-onward r = let u = r.2.1 in (r.0, u.0, record { below = r.1; allowed = r.2.0; moves = rw (ee, ef) at u.1 }, u.2)

  pub meets-onward : (p2 c d : ℕ) (m : Bool) → p2 < t → T (rows_has allow (cell p p2) s) → c ≡ get_or xs (row_words * p2) 0 → d ≡ get_or xs (row_words * p2 + 1) 0
      → m ≡ not (each members_most (λ u. not (held e f u && held c d u))) → m ≡ true → Onward allow next t (rows_has xs) p s
  meets-onward p2 c d m l a ec ed meets y =
      let is : T m ↔ Common (held e f) (rows_has xs p2) = rw (ec, ed) at (meet-is e f c d m meets) in
      meeting-onward (p2, l, (a, is.0 (rw y tt)))
