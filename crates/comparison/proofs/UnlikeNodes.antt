-- The search over the nodes of a row for one whose signature differs from a set: the run of the nodes, place by place.
use mathlib.Core.Path.{◌≡◌, refl, sym, subst, ◌∙◌}
use mathlib.Core.Logic.{◌⊎◌, inl, inr, ⊎_elim}
use Prim.Native.Nat.{ℕ, zero, suc, ◌+◌, ◌<◌}
use mathlib.Core.List.{List, [], ◌∷◌}
use mathlib.Core.Bool.{Bool}
use lib.Dec.{T}
use denote.Param.Members.{Mut, Called}
use Rattle.std.specs.Prelude.{Option, None, Some, MatchOption, IsSomeAnd, IfSome, IsTrue, slice_get}
use Rattle.std.specs.Iterator.{Yields}
use Rattle.std.specs.Iterator.Runs.{SomeRun, YieldsRun, AllItemsGive, IsFirstToGive, CallKeepsClosure}
use Rattle.truth.specs.inner.Rows.{row_has, TakesHighest}
use Rattle.truth.specs.inner.Marks.{marks_into}
use Rattle.truth.specs.declared.rows.Row.{Row}
use Rattle.truth.proofs.rows.RowWalks.{less-in, less-or}
use Rattle.comparison.specs.inner.Signatures.{TellsApart, TellsUnlike}

-- of the same sets
pub apart-as : (a a' b : ℕ → Bool) (r : Option ℕ) → ((e : ℕ) → a e ≡ a' e) → TellsApart a b r → TellsApart a' b r
apart-as a a' b None same t = λ e. sym (same e) ∙ t e
apart-as a a' b (Some r) same t = sym (same r) ∙ t

if-some : (o : Option ℕ) (P Q : ℕ → Type 0) → ((x : ℕ) → P x → Q x) → IfSome o P → IfSome o Q
if-some None P Q to h = h
if-some (Some x) P Q to h = to x h

module _ {S : Type 0} (left : S → Row) (steps : S → Option ℕ → S → Type 0) (takes : (s t : S) (r : Option ℕ) → steps s r t → TakesHighest (left s) r (left t))
    (M : List ℕ) (mark : List (Option ℕ)) (l : ℕ → Bool) where
  abbrev Like : ℕ → Type 0
  Like x = (e : ℕ) → marks_into M mark x e ≡ l e

  -- a node that came was one of the row
  came-in : (xs : List ℕ) (s t : S) → Yields steps s xs t → (i x : ℕ) → slice_get xs i ≡ Some x → T (row_has (left s) x)
  came-in [] s t y i x q = absurd cc
  came-in (v ∷ xs) s t y zero x q =
      let one : v ≡ x = cc in
      subst (λ (k : ℕ). T (row_has (left s) k)) one (takes s y.0 (Some v) y.1).first.is_in
  came-in (v ∷ xs) s t y (suc i) x q = less-in (row_has (left s)) (row_has (left y.0)) v (takes s y.0 (Some v) y.1).less x (came-in xs y.0 t y.2 i x q)

  -- where those that came are like l, so are all that are not left
  all-came : (xs : List ℕ) (s t : S) → Yields steps s xs t → ((i : ℕ) → IfSome (slice_get xs i) Like) → (x : ℕ) → T (row_has (left s) x) → T (row_has (left t) x) ⊎ Like x
  all-came [] s t y like x h = inl (subst (λ (k : S). T (row_has (left k) x)) y h)
  all-came (v ∷ xs) s t y like x h =
      ⊎_elim (λ q. inr (subst Like (sym q) (like 0))) (λ r. all-came xs y.0 t y.2 (λ i. like (suc i)) x r)
      (less-or (row_has (left s)) (row_has (left y.0)) v (takes s y.0 (Some v) y.1).less x h)

  module _ {F : Type 0} (g : Mut F (ℕ × Unit {0}) (Option ℕ)) (f : F) (keeps : CallKeepsClosure g f)
      (tells : (x : ℕ) (r : Option ℕ) → Called g f (x, tt) r f → TellsApart (marks_into M mark x) l r) where
    at-place : (xs : List ℕ) (s t : S) → Yields steps s xs t → (i e : ℕ) (o : Option ℕ) → slice_get xs i ≡ o → IsSomeAnd o (λ v. Called g f (v, tt) (Some e) f)
        → TellsUnlike M mark (row_has (left s)) l (Some e)
    at-place xs s t y i e None q c = absurd c
    at-place xs s t y i e (Some x) q c = (x, came-in xs s t y i x q, tells x (Some e) c)

    pub unlike-searched : (s : S) (r : Option ℕ)
        → SomeRun steps s (λ p. MatchOption r (IsTrue p.whole × AllItemsGive p g f None) (λ y. (i : ℕ) × (i < p.len) × (p.len ≡ i + 1) × IsFirstToGive p g f (Some y) None i))
        → TellsUnlike M mark (row_has (left s)) l r
    unfolding YieldsRun
    unlike-searched s None d = λ x h.
        let p = d.0 in
        let gave = p.gave in
        let came = gave.0 in
        let end = came.2 d.2.0 in
        let like = λ (i : ℕ). if-some (slice_get p.items i) (λ v. Called g f (v, tt) None f) Like (λ v k. tells v None k)
        (subst (λ (o : Option ℕ). IfSome o (λ v. Called g f (v, tt) None f)) (gave.1 i) (d.2.1 keeps i)) in
        ⊎_elim (λ k. absurd ((takes came.0 end.0 None end.1).0 x k)) (λ k. k)
        (all-came p.items p.from came.0 came.1 like x (subst (λ (j : S). T (row_has (left j) x)) (sym d.1) h))
    unlike-searched s (Some e) d =
        let p = d.0 in
        let gave = p.gave in
        let i = d.2.0 in
        subst (λ (j : S). TellsUnlike M mark (row_has (left j)) l (Some e)) d.1
        (at-place p.items p.from gave.0.0 gave.0.1 i e (slice_get p.items i) refl
        (subst (λ (o : Option ℕ). IsSomeAnd o (λ v. Called g f (v, tt) (Some e) f)) (gave.1 i) (d.2.3 keeps).0))
