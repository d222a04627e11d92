-- A search through the members of a row by a closure: where the closure may be called, and what `any` and `find` answer.
use mathlib.Core.Path.{◌≡◌, refl, sym, subst, ◌∙◌}
use mathlib.Core.Logic.{◌↔◌, ⊎_elim}
use Prim.Native.Nat.{ℕ, ◌≤◌}
use mathlib.Core.Bool.{Bool, true, false}
use mathlib.Core.List.{List, [], ◌∷◌}
use lib.Dec.{T}
use denote.Param.Members.{Mut}
use denote.Ref.{Bor}
use Rattle.std.specs.Prelude.{Option, Some, None, MatchOption, IfSome}
use Rattle.std.specs.Fn.{Called, CalledAt}
use Rattle.std.specs.Iterator.{Yields, CallableAtEachTurn, ChecksAny, FindsItem}
use Rattle.std.specs.List.{FoldsTo}
use Rattle.truth.specs.declared.rows.Members.{Members}
use Rattle.truth.specs.inner.Rows.{row_has, TakesLowest}
use Rattle.truth.proofs.rows.RowWalks.{Visited, visited-none, visited-next, visited-end}

-- the members of the row that are still to come
abbrev left : Members → ℕ → Bool
left s = row_has s.left

abbrev pub taking : Members → Option ℕ → Members → Type 0
taking s r t = TakesLowest s.left r t.left

-- calls that leave the closure as it was went on only past members of which P does not hold
module _ {F : Type 0} (R : F → ℕ → F → Type 0) (P : ℕ → Type 0) (f : F) (on : (x : ℕ) (q : F) → R f x q → (q ≡ f) × (P x → ⊥)) where
  visited : (xs : List ℕ) (from : ℕ → Bool) (s t : Members) (j q : F) → j ≡ f → Visited (λ u. P u → ⊥) from (left s) → Yields taking s xs t → FoldsTo R j xs q
      → (q ≡ f) × Visited (λ u. P u → ⊥) from (left t)
  visited [] from s t j q e v y r = (sym r ∙ e, subst (λ (m : Members). Visited (λ u. P u → ⊥) from (left m)) y v)
  visited (x ∷ xs) from s t j q e v y r =
      let k = on x r.0 (subst (λ (h : F). R h x r.0) e r.1) in
      visited xs from y.0 t r.0 q k.0 (visited-next _ from (left s) v _ (left y.0) x y.1.less (λ u n. n) k.1) y.2 r.2

-- the closure may be called at each item where it may be called at each member
pub served : {F : Type 0} {R : F → ℕ → F → Type 0} {Q : F → ℕ → Type 0} {s : Members} {f : F} → ((x : ℕ) (q : F) → R f x q → q ≡ f) → ((x : ℕ) → T (left s x) → Q f x)
    → CallableAtEachTurn taking R Q s f
served {F} {R} {Q} {s} {f} stays may = record {
  at = λ xs t q x u y r one.
      let v = visited R (λ _. ⊥) f (λ x q h. (stays x q h, λ n. n)) xs (left s) s t f q refl (visited-none _ (left s)) y r in
      subst (λ (h : F). Q h x) (sym v.0) (may x (v.1.fewer x one.first.is_in));
}

-- the members that were visited before t, none of which P holds of
abbrev Past : (ℕ → Type 0) → Members → Members → Type 0
Past P s t = Visited (λ x. P x → ⊥) (left s) (left t)

-- the lowest member of which P holds, or that it holds of none
abbrev Found : (ℕ → Type 0) → Members → Option ℕ → Type 0
Found P s r = MatchOption r ((x : ℕ) → T (left s x) → P x → ⊥) (λ x. T (left s x) × P x × ((y : ℕ) → T (left s y) → P y → x ≤ y))

module _ (P : ℕ → Type 0) (s u : Members) {F : Type 0} (f : F) where
  -- `any` answers whether P holds of a member
  module _ {g : Mut F (ℕ × Unit {0}) Bool} (r : Bool) (yes : (x : ℕ) (q : F) → Called g f (x, tt) true q → P x)
      (no : (x : ℕ) (q : F) → Called g f (x, tt) false q → (q ≡ f) × (P x → ⊥)) where
    ended : (o : Option ℕ) (t : Members) (j : F) → j ≡ f → Past P s t → taking t o u → MatchOption o (r ≡ false) (λ x. (r ≡ true) × ((h : F) × Called g j (x, tt) true h))
        → T r ↔ ((x : ℕ) × T (left s x) × P x)
    ended None t j e v one m = (λ x. absurd (rw m at x), λ w. absurd (visited-end _ (left s) (left t) v one.0 w.0 w.1 w.2))
    ended (Some x) t j e v one m =
        (λ _. (x, v.fewer x one.first.is_in, yes x m.1.0 (subst (λ (h : F). Called g h (x, tt) true m.1.0) e m.1.1)), λ _. rw m.0 tt)

    pub any_member : ChecksAny taking g s f r u → T r ↔ ((x : ℕ) × T (left s x) × P x)
    any_member ran =
        let v = visited (λ p x q. Called g p (x, tt) false q) P f no ran.0 (left s) s ran.3.0 f ran.2 refl (visited-none _ (left s)) ran.3.1 ran.4 in
        ended ran.1 ran.3.0 ran.2 v.0 v.1 ran.3.2 ran.5

  -- `find` answers so
  module _ {g : Mut F (Bor ℕ × Unit {0}) Bool} (r : Option ℕ) (yes : (x : ℕ) (q : F) → CalledAt g f x true q → P x)
      (no : (x : ℕ) (q : F) → CalledAt g f x false q → (q ≡ f) × (P x → ⊥)) where
    found : (o : Option ℕ) (t : Members) (j : F) → j ≡ f → Past P s t → taking t o u → IfSome o (λ x. (h : F) × CalledAt g j x true h) → Found P s o
    found None t j e v one m = visited-end _ (left s) (left t) v one.0
    found (Some x) t j e v one m = (
      v.fewer x one.first.is_in,
      yes x m.0 (subst (λ (h : F). CalledAt g h x true m.0) e m.1),
      λ y a p. ⊎_elim (one.first.others y) (λ n. absurd (n p)) (v.passed y a),
    )

    pub first_member : FindsItem taking g s f r u → Found P s r
    first_member ran =
        let v = visited (λ p x q. CalledAt g p x false q) P f no ran.0 (left s) s ran.2.0 f ran.1 refl (visited-none _ (left s)) ran.2.1 ran.3 in
        found r ran.2.0 ran.1 v.0 v.1 ran.2.2 ran.4
