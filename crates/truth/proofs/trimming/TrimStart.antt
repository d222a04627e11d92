-- The first pass of trimming: the pairs with nothing ahead went, row after row; what is left then is owed a step.
use mathlib.Core.Path.{◌≡◌, ◌∙◌}
use mathlib.Core.Logic.{inr, ◌↔◌, ⊎_elim, ⊎_map, by_cases}
use Prim.Native.Nat.{ℕ, ◌+◌, ◌<◌}
use native.Mathlib.Omega.{arith}
use native.Mathlib.Decide.{ℕ_discrete}
use mathlib.Core.List.{List}
use mathlib.Core.Bool.{Bool, not, ◌&&◌}
use lib.Dec.{T, T_not}
use Rattle.sheets.proofs.Tests.{surely, and_left, and_right, and_both}
use Rattle.truth.specs.inner.Rows.{rows_has}
use Rattle.truth.specs.inner.Pairs.{UpTo, Transposed, Before, Lasts, Inside}
use Rattle.truth.specs.inner.Trimmed.{SomeBelow, Taken, Owing, Ahead, Started}
use Rattle.truth.proofs.rows.RowLaws.{held_in}
use Rattle.truth.proofs.structure.EdgesBack.{back-of, edge_of}
use Rattle.truth.proofs.trimming.TrimSteps.{Through}
use Rattle.truth.proofs.trimming.TrimTaken.{taken-fewer, taken_not, taken-stays, taken-gone, taken-keeps, taken-gains}

module _ {allow back : List ℕ} (table : List ℕ) {t p : ℕ} {start xs gone xs' gone' : List ℕ} (on : ℕ → Bool) {lost : ℕ → Bool}
    (table_is : (k s : ℕ) → k < t → T (rows_has table k s) ↔ Before back (rows_has start k) s) (on_is : (s : ℕ) → T (on s) ↔ SomeBelow t (Through allow table p s))
    (lost_is : (s : ℕ) → lost s ≡ (rows_has xs p s && not (on s))) (k : Taken p lost xs gone xs' gone') (g : Started allow back t p start xs gone) where
  on-ahead : (s : ℕ) → T (on s) → Ahead allow back t start p s
  on-ahead s x = let r = (on_is s).0 x in (r.0, r.1, (r.2.0, (table_is r.0 s r.1).0 r.2.1))

  ahead-on : (s : ℕ) → Ahead allow back t start p s → T (on s)
  ahead-on s r = (on_is s).1 (r.0, r.1, (r.2.0, (table_is r.0 s r.1).1 r.2.1))

  kept_on : (s : ℕ) → T (rows_has xs' p s) → T (on s)
  kept_on s x =
      surely (on s) (λ n.
      T_not (lost s) (taken_not k s x) (rw (lost_is s) (and_both (rows_has xs p s) (not (on s)) (taken-fewer k p s x) n)))

  pub started-next : Started allow back t (p + 1) start xs' gone'
  started-next = record {
    size = k.size ∙ g.size;
    fewer = λ q s x. g.fewer q s (taken-fewer k q s x);
    ahead = λ q s l x. by_cases (ℕ_discrete q p) (λ e. rw e (on-ahead s (kept_on s (rw e at x)))) (λ n. g.ahead q s (omega arith) (taken-fewer k q s x));
    stays = λ q s x.
        ⊎_elim (λ y. ⊎_map (λ z. z) (λ w. rw w.0 (taken-gone k s w.1)) (taken-stays k q s y))
        (λ y. inr (taken-keeps k q s y)) (g.stays q s x);
    takes = λ q s x.
        ⊎_elim (g.takes q s) (λ w. rw w.0 (g.fewer p s (and_left (rows_has xs p s) (not (on s)) (rw (lost_is s) at w.1))))
        (taken-gains k q s x);
    none = λ q s x.
        ⊎_elim (g.none q s) (λ w. rw w.0 (λ r. T_not (on s) (and_right (rows_has xs p s) (not (on s)) (rw (lost_is s) at w.1)) (ahead-on s r)))
        (taken-gains k q s x);
  }

module _ {allow back : List ℕ} {t : ℕ} {start xs gone : List ℕ} (g : Started allow back t t start xs gone) (next : List ℕ) (n : ℕ)
    (tr : Transposed n next back) (up : UpTo n t start) where
  pub started-upto : UpTo n t xs
  started-upto p s l x = up p s l (g.fewer p s x)

  pub started-upto-gone : UpTo n t gone
  started-upto-gone p s l x = up p s l (g.takes p s x)

  pub started-largest : (W : ℕ → ℕ → Bool) → Lasts allow next t W → Inside t W start → Inside t W xs
  started-largest W lasts inside p s l x = ⊎_elim (λ y. y) (λ y. absurd (g.none p s y ahead)) (g.stays p s (inside p s l x))
    where
      ahead : Ahead allow back t start p s
      ahead =
          let r = lasts p s l x in
          let h = r.2 in
          let from = inside p s l x in
          let to = inside r.0 r.1 h.below r.3 in
          let w = held_in _ _ s from in
          let b = back-of n next back tr s r.1 (held_in _ _ r.1 to).0 (up r.0 r.1 h.below to) w.0 w.1 (up p s l from) h.moves in
          (r.0, h.below, (h.allowed, (r.1, to, b)))

  pub started-owing : Owing allow next t xs gone
  started-owing p s l x =
      let r = g.ahead p s l x in
      let b = r.2.1 in
      let w = held_in _ _ b.0 b.1 in
      let e = edge_of n next back tr s b.0 w.0 (up r.0 b.0 r.1 b.1) b.2 in
      (r.0, b.0, record { below = r.1; allowed = r.2.0; moves = e }, g.stays r.0 b.0 b.1)
