-- A loop over the nodes of a row that gathers their marks: the marks that a node's edges lead to.
use mathlib.Core.Path.{◌≡◌, refl, sym, ap, subst, ◌∙◌}
use mathlib.Core.Logic.{◌⊎◌, inl, inr, ⊎_elim}
use Prim.Native.Nat.{ℕ}
use mathlib.Core.List.{List}
use mathlib.Core.Bool.{Bool, true, false, not, ◌&&◌, ◌||◌}
use lib.ListN.{get_or}
use lib.Dec.{T, eqb, eqb→eq, eqb_refl}
use Rattle.std.specs.Prelude.{Option, None, Some}
use Rattle.sheets.specs.Words.{within}
use Rattle.sheets.specs.Machine.{edges_of, target, kripke}
use Rattle.sheets.proofs.Tests.{and_left, and_right, and_both, or_left, or_right, or_cases, test, contrary, both-passed, both-failed}
use Rattle.sheets.proofs.Search.{within_in, any_at, any-in}
use Rattle.truth.specs.Sizes.{members_most}
use Rattle.truth.specs.inner.Rows.{row_has, leads_into}
use Rattle.truth.specs.inner.Marks.{marked, marks_into, AllMarks}
use Rattle.truth.specs.declared.rows.Row.{Row}
use Rattle.truth.proofs.rows.RowLaws.{held_in}
use Rattle.truth.proofs.rows.RowWalks.{Less, less-in, less-or}

rest_in : (a b : Bool) → T a → (T (a && not b) → ⊥) → T b
rest_in true true t n = tt
rest_in true false t n = n tt
rest_in false b t n = absurd t

-- node t has the mark e
pub marked-as : (mark : List (Option ℕ)) (t e : ℕ) → get_or mark t None ≡ Some e → T (marked mark t e)
unfolding marked
marked-as mark t e q = rw q (eqb_refl e)

pub mark-of : (mark : List (Option ℕ)) (t e : ℕ) → T (marked mark t e) → get_or mark t None ≡ Some e
unfolding marked
mark-of mark t e x = go (get_or mark t None) refl
  where
    go : (o : Option ℕ) → get_or mark t None ≡ o → get_or mark t None ≡ Some e
    go None q = absurd (rw q at x)
    go (Some k) q = q ∙ ap Some (eqb→eq k e (rw q at x))

-- `out` has marks of nodes of `next`, and among them those of the nodes that are not left
pub record Noted (mark : List (Option ℕ)) (next left out : ℕ → Bool) : Type 0 where
  pub fewer : (t : ℕ) → T (left t) → T (next t)
  pub found : (e : ℕ) → T (out e) → (t : ℕ) × T (next t) × (get_or mark t None ≡ Some e)
  pub noted : (t e : ℕ) → T (next t) → get_or mark t None ≡ Some e → T (within 1 members_most e) → T (left t) ⊎ T (out e)

module _ (mark : List (Option ℕ)) (next left left' out : ℕ → Bool) (u : ℕ) (g : Noted mark next left out) (l : T (left u)) (less : Less left u left') where
  -- the next node has the mark k
  pub noted-mark : (k : ℕ) (out' : ℕ → Bool) → get_or mark u None ≡ Some k → ((e : ℕ) → out' e ≡ (out e || (within 1 members_most k && eqb e k))) → Noted mark next left' out'
  noted-mark k out' is more = record {
    fewer = λ t x. g.fewer t (less-in left left' u less t x);
    found = λ e x. ⊎_elim (g.found e) (λ y. (u, g.fewer u l, is ∙ ap Some (sym (eqb→eq e k (and_right (within 1 members_most k) (eqb e k) y))))) (or_cases (out e) (own e) (rw (more e) at x));
    noted = λ t e x q w. ⊎_elim (stays t e q w) (λ o. inr (rw (more e) (or_left (out e) (own e) o))) (g.noted t e x q w);
  }
    where
      own : ℕ → Bool
      own e = within 1 members_most k && eqb e k

      here : (e : ℕ) → e ≡ k → T (within 1 members_most e) → T (out' e)
      here e i w = rw (more e) (or_right (out e) (own e) (and_both (within 1 members_most k) (eqb e k) (subst (λ (j : ℕ). T (within 1 members_most j)) i w) (subst (λ (j : ℕ). T (eqb e j)) i (eqb_refl e))))

      stays : (t e : ℕ) → get_or mark t None ≡ Some e → T (within 1 members_most e) → T (left t) → T (left' t) ⊎ T (out' e)
      stays t e q w x = ⊎_elim (λ i. let same : Some e ≡ Some k = sym q ∙ subst (λ (j : ℕ). get_or mark j None ≡ Some k) (sym i) is in
          let one : e ≡ k = cc in
          inr (here e one w)) inl (less-or left left' u less t x)

-- ---- the marks that the edges of node s lead to, where `next` has its targets
module _ (M : List ℕ) (mark : List (Option ℕ)) (s : ℕ) (next : Row) (at : (t : ℕ) → row_has next t ≡ (within 1 members_most t && (kripke M).edge s t)) (left : ℕ → Bool) (out : Row)
    (g : Noted mark (row_has next) left (row_has out)) where
  led : (e : ℕ) → T (row_has out e) → T (marks_into M mark s e)
  unfolding marks_into leads_into kripke
  led e o =
      let f = g.found e o in
      let t = f.0 in
      let y = subst T (at t) f.1 in
      let x = any_at (edges_of M s) (λ x. eqb (target M x) t) (and_right (within 1 members_most t) ((kripke M).edge s t) y) in
      let i = held_in out.low out.high e o in
      let same : target M x.0 ≡ t = eqb→eq (target M x.0) t x.2 in
      and_both (within 1 members_most e) (leads_into M (λ t. within 1 members_most t && marked mark t e) s) (within_in 1 members_most e i.0 i.1)
      (any-in (edges_of M s) (λ x. within 1 members_most (target M x) && marked mark (target M x) e) x.0 x.1
      (subst (λ k. T (within 1 members_most k && marked mark k e)) (sym same)
      (and_both (within 1 members_most t) (marked mark t e) (and_left (within 1 members_most t) ((kripke M).edge s t) y) (marked-as mark t e f.2))))

  -- none is left out
  pub noted-is : (e : ℕ) → (T (marks_into M mark s e) → T (row_has out e)) → row_has out e ≡ marks_into M mark s e
  noted-is e h =
      ⊎_elim (λ o. both-passed (row_has out e) (marks_into M mark s e) o (led e o))
      (λ n. both-failed (row_has out e) (marks_into M mark s e) n (contrary (marks_into M mark s e) (row_has out e) h n)) (test (row_has out e))

  -- the marked target that an edge leads to
  leads-to : (e : ℕ) → T (marks_into M mark s e) → (t : ℕ) × T (row_has next t) × (get_or mark t None ≡ Some e) × T (within 1 members_most e)
  unfolding marks_into leads_into kripke
  leads-to e y =
      let w = and_left (within 1 members_most e) (leads_into M (λ t. within 1 members_most t && marked mark t e) s) y in
      let x = any_at (edges_of M s) (λ x. within 1 members_most (target M x) && marked mark (target M x) e) (and_right (within 1 members_most e) (leads_into M (λ t. within 1 members_most t && marked mark t e) s) y) in
      let t = target M x.0 in
      let there : T ((kripke M).edge s t) = any-in (edges_of M s) (λ x. eqb (target M x) t) x.0 x.1 (eqb_refl t) in
      (t, subst T (sym (at t)) (and_both (within 1 members_most t) ((kripke M).edge s t) (and_left (within 1 members_most t) (marked mark t e) x.2) there), mark-of mark t e (and_right (within 1 members_most t) (marked mark t e) x.2), w)

  -- at the end
  pub noted-end : ((t : ℕ) → T (left t) → ⊥) → (e : ℕ) → row_has out e ≡ marks_into M mark s e
  noted-end none e = noted-is e (λ y. let f = leads-to e y in ⊎_elim (λ l. absurd (none f.0 l)) (λ o. o) (g.noted f.0 e f.1 f.2 f.3))

  -- where all of them are found
  pub noted-all : (all : ℕ → Bool) → ((e : ℕ) → T (marks_into M mark s e) → T (all e)) → ((e : ℕ) → T (all e && not (row_has out e)) → ⊥) → (e : ℕ) → row_has out e ≡ marks_into M mark s e
  noted-all all covers none e = noted-is e (λ y. rest_in (all e) (row_has out e) (covers e y) (none e))

-- a set with all the marks has those that an edge leads to
pub covered : (M : List ℕ) (mark : List (Option ℕ)) (s : ℕ) (all : ℕ → Bool) → AllMarks mark all → (e : ℕ) → T (marks_into M mark s e) → T (all e)
unfolding marks_into leads_into
covered M mark s all every e y =
    let w = and_left (within 1 members_most e) (leads_into M (λ t. within 1 members_most t && marked mark t e) s) y in
    let x = any_at (edges_of M s) (λ x. within 1 members_most (target M x) && marked mark (target M x) e) (and_right (within 1 members_most e) (leads_into M (λ t. within 1 members_most t && marked mark t e) s) y) in
    let t = target M x.0 in
    every t e (mark-of mark t e (and_right (within 1 members_most t) (marked mark t e) x.2)) w
