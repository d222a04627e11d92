-- A loop over the nodes 1 to n that adds those that pass to a row: what the row holds after one more node.
use mathlib.Core.Path.{◌≡◌, refl, sym}
use mathlib.Core.Logic.{⊎_elim}
use Prim.Native.Nat.{ℕ, ◌+◌}
use native.Mathlib.Numerals.{add-one}
use mathlib.Core.Bool.{Bool, true, false, not, ◌&&◌, ◌||◌, and-false, or-false}
use lib.Dec.{T, leb, leb-suc-suc, eqb}
use Rattle.sheets.specs.Words.{within}
use Rattle.sheets.proofs.Tests.{test, passed, failed}
use Rattle.sheets.proofs.Positions.{up_to, up_to-none, up_to-yes, up_to-no}
use Rattle.truth.specs.Sizes.{members_most}
use Rattle.truth.proofs.rows.RowLaws.{not-in-row}

-- the nodes before s that pass
abbrev pub before : (ℕ → Bool) → ℕ → ℕ → Bool
before q s i = up_to (λ k. within 1 members_most k && q k) i s

module _ (q : ℕ → Bool) (i : ℕ) where
  abbrev passes : ℕ → Bool
  passes k = within 1 members_most k && q k

  -- before n + 1 is up to n
  pub before-end : (n : ℕ) → before q (n + 1) i ≡ (leb i n && (within 1 members_most i && q i))
  before-end n = rw (add-one n, leb-suc-suc i n)

  pub before-none : before q 1 i ≡ false
  before-none = sym (up_to-no passes i 0 false (sym (up_to-none passes i)) (rw (not-in-row 0 refl)))

  module _ (s : ℕ) (h : Bool) (e : h ≡ before q s i) where
    pub before-no : q s ≡ false → h ≡ before q (s + 1) i
    before-no n = up_to-no passes i s h e (rw n (and-false (within 1 members_most s)))

    pub before-yes : q s ≡ true → (h || (within 1 members_most s && eqb i s)) ≡ before q (s + 1) i
    before-yes y = ⊎_elim node other (test (within 1 members_most s))
      where
        node : T (within 1 members_most s) → (h || (within 1 members_most s && eqb i s)) ≡ before q (s + 1) i
        node t = let w = passed (within 1 members_most s) t in rw w (up_to-yes passes i s h e (rw (w, y)))

        other : T (not (within 1 members_most s)) → (h || (within 1 members_most s && eqb i s)) ≡ before q (s + 1) i
        other t = let w = failed (within 1 members_most s) t in rw (w, or-false h) (up_to-no passes i s h e (rw w))
