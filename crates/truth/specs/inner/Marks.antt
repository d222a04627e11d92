-- Marks of nodes, at s that of node s: what it is for a mark to be one that a node's edges lead to, and for the nodes of a row to be marked.
use Rattle.std.specs.Prelude.{◌≡◌, ℕ, Bool, false, ◌&&◌, List, length, get_or, T, eqb, Option, None, Some}
use Rattle.sheets.specs.Words.{within}
use Rattle.truth.specs.Sizes.{members_most, node_places}
use Rattle.truth.specs.inner.Rows.{leads_into}

-- e is the mark of node t
unfoldable pub marked : List (Option ℕ) → ℕ → ℕ → Bool
marked mark t e = is (get_or mark t None)
  where
    is : Option ℕ → Bool
    is None = false
    is (Some k) = eqb k e

-- e is a mark that a row may have, of a node that a row may have and that some edge of node s leads to
unfoldable pub marks_into : List ℕ → List (Option ℕ) → ℕ → ℕ → Bool
unfolding leads_into
marks_into M mark s e = within 1 members_most e && leads_into M (λ t. within 1 members_most t && marked mark t e) s

-- the mark of each node is in the set, if a row may have it
abbrev pub AllMarks : List (Option ℕ) → (ℕ → Bool) → Type 0
AllMarks mark all = (t e : ℕ) → get_or mark t None ≡ Some e → T (within 1 members_most e) → T (all e)

-- the nodes of the row have the mark e, the others have theirs as before
pub record MarkedRow (row : ℕ → Bool) (e : ℕ) (before after : List (Option ℕ)) : Type 0 where
  pub size : length after ≡ node_places
  pub here : (s : ℕ) → T (row s) → get_or after s None ≡ Some e
  pub others : (s : ℕ) → (T (row s) → ⊥) → get_or after s None ≡ get_or before s None
