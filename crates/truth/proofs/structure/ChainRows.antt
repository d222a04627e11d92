-- The nodes of a chain, in a row.
use mathlib.Core.Path.{◌≡◌, sym, ◌∙◌}
use mathlib.Core.Logic.{by_cases}
use Prim.Native.Nat.{ℕ}
use native.Mathlib.Decide.{ℕ_discrete}
use mathlib.Core.List.{List, [], ◌∷◌}
use mathlib.Core.Bool.{◌&&◌, and-false, and-or_distrib_left}
use borrow.Author.Tests.{ne_eqb}
use lib.Dec.{eqb}
use Rattle.sheets.specs.Words.{within, any_of}
use Rattle.truth.specs.Sizes.{members_most}

same-node : (a t : ℕ) → (within 1 members_most t && eqb a t) ≡ (within 1 members_most a && eqb t a)
same-node a t =
    by_cases (ℕ_discrete a t) (λ e. rw e)
    (λ n. rw (ne_eqb a t n, ne_eqb t a (λ e. n (sym e)), and-false (within 1 members_most t), and-false (within 1 members_most a)))

pub node-among : (xs : List ℕ) (f : ℕ → ℕ) (t : ℕ) → (within 1 members_most t && any_of xs (λ x. eqb (f x) t)) ≡ any_of xs (λ x. within 1 members_most (f x) && eqb t (f x))
unfolding any_of
node-among [] f t = and-false (within 1 members_most t)
node-among (x ∷ xs) f t =
    and-or_distrib_left (within 1 members_most t) (eqb (f x) t) (any_of xs (λ x. eqb (f x) t)) ∙ rw (same-node (f x) t, node-among xs f t)
