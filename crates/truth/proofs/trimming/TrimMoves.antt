-- Pairs moved from a set to what is gone, move after move; which pairs are owed a step then.
use mathlib.Core.Path.{◌≡◌, refl, sym, ◌∙◌}
use mathlib.Core.Logic.{inl, inr, ⊎_elim, ⊎_map}
use Prim.Native.Nat.{ℕ, ◌+◌, ◌-◌, ◌<◌}
use native.Mathlib.Omega.{arith}
use mathlib.Core.List.{List}
use mathlib.Core.Bool.{Bool, true, not, ◌&&◌}
use lib.Dec.{T, T_not}
use Rattle.sheets.specs.Words.{each}
use Rattle.sheets.proofs.Tests.{contrary, and_left, and_both}
use Rattle.truth.specs.Sizes.{members_most, cell}
use Rattle.truth.specs.inner.Rows.{rows_has}
use Rattle.truth.specs.inner.Pairs.{Onward}
use Rattle.truth.specs.inner.Links.{Into}
use Rattle.truth.specs.inner.Trimmed.{Stuck, Taken, Owed, OwingTo, Shrunk, Moved}
use Rattle.truth.proofs.rows.RowLaws.{held_in, none_passes}
use Rattle.truth.proofs.trimming.TrimTaken.{taken-fewer, taken_not, taken-moved}

-- the nodes that are looked at in row p: those at which p may go to p2, of `pre`
pub record Looked (allow : List ℕ) (p p2 : ℕ) (pre look : ℕ → Bool) (xs : List ℕ) : Type 0 where
  pub is : (s : ℕ) → look s ≡ ((rows_has xs p s && rows_has allow (cell p p2) s) && pre s)

-- ---- move after move
module _ {allow next : List ℕ} {t : ℕ} where
  pub shrunk-none : {xs gone : List ℕ} → Shrunk allow next t xs gone xs gone
  shrunk-none = record { size = refl; size-gone = refl; fewer = λ p s x. x; gains = λ p s x. inl x; largest = λ W l i. i }

  pub shrunk-more : {xs gone xs' gone' xs'' gone'' : List ℕ} → Shrunk allow next t xs gone xs' gone' → Shrunk allow next t xs' gone' xs'' gone''
      → Shrunk allow next t xs gone xs'' gone''
  shrunk-more {xs' = xs'} {xs'' = xs''} g k = record {
    size = k.size ∙ g.size;
    size-gone = k.size-gone ∙ g.size-gone;
    fewer = λ p s x. g.fewer p s (k.fewer p s x);
    gains = λ p s x.
        ⊎_elim (λ y. ⊎_map (λ z. z) (λ w. (w.0, contrary (rows_has xs'' p s) (rows_has xs' p s) (k.fewer p s) w.1)) (g.gains p s y))
        (λ w. inr (g.fewer p s w.0, w.1)) (k.gains p s x);
    largest = λ W l i. k.largest W l (g.largest W l i);
  }

  module _ {xs gone xs' gone' : List ℕ} (g : Moved allow next t xs gone xs' gone') where
    pub moved_more : {xs'' gone'' : List ℕ} → Moved allow next t xs' gone' xs'' gone'' → Moved allow next t xs gone xs'' gone''
    moved_more k = record {
      shrunk = shrunk-more g.shrunk k.shrunk;
      stays = λ p s x. ⊎_elim (k.stays p s) (λ y. inr (k.keeps p s y)) (g.stays p s x);
      keeps = λ p s x. k.keeps p s (g.keeps p s x);
    }

    -- what is owed stays owed
    pub owed-still : (p s : ℕ) → Owed allow next t xs gone p s → Owed allow next t xs' gone' p s
    owed-still p s r = (r.0, r.1, r.2, ⊎_elim (g.stays r.0 r.1) (λ y. inr (g.keeps r.0 r.1 y)) r.3)

    pub onward-owed : (p s : ℕ) → Onward allow next t (rows_has xs) p s → Owed allow next t xs' gone' p s
    onward-owed p s r = (r.0, r.1, r.2, g.stays r.0 r.1 r.3)

  -- ---- row after row
  pub owing-still : (p2 : ℕ) (pre : ℕ → Bool) {xs gone xs' gone' : List ℕ} → Moved allow next t xs gone xs' gone' → (q : ℕ)
      → OwingTo allow next t p2 pre xs gone q → OwingTo allow next t p2 pre xs' gone' q
  owing-still p2 pre g q before s x a y = owed-still g q s (before s (g.shrunk.fewer q s x) a y)

  -- a position that p2 is not entered from has nothing to owe
  pub owing-all : (into : List ℕ) → Into allow into t → (p2 : ℕ) (pre : ℕ → Bool) (xs gone : List ℕ) → p2 < t
      → ((u : ℕ) → T (rows_has into p2 u) → OwingTo allow next t p2 pre xs gone (u - 1)) → (p : ℕ) → p < t → OwingTo allow next t p2 pre xs gone p
  owing-all into known p2 pre xs gone below each-one p l s x a y =
      let e : p + 1 - 1 ≡ p = omega arith in
      let here : OwingTo allow next t p2 pre xs gone p = rw e at (each-one (p + 1) (known.all p2 p s below l a)) in
      here s x a y

-- ---- a row that was looked at
module _ {allow : List ℕ} {p p2 : ℕ} {pre look : ℕ → Bool} {xs : List ℕ} (k : Looked allow p p2 pre look xs) where
  looked : (s : ℕ) → T (rows_has xs p s) → T (rows_has allow (cell p p2) s) → T (pre s) → T (look s)
  looked s x a y = rw (k.is s) (and_both (rows_has xs p s && rows_has allow (cell p p2) s) (pre s) (and_both (rows_has xs p s) (rows_has allow (cell p p2) s) x a) y)

  of-both : (s : ℕ) → T (look s) → T (rows_has xs p s && rows_has allow (cell p p2) s)
  of-both s x = and_left (rows_has xs p s && rows_has allow (cell p p2) s) (pre s) (rw (k.is s) at x)

  pub look_in : (s : ℕ) → T (look s) → T (rows_has xs p s)
  look_in s x = and_left (rows_has xs p s) (rows_has allow (cell p p2) s) (of-both s x)

  -- nothing to look at
  pub none-looked : (next : List ℕ) (t : ℕ) (gone : List ℕ) → true ≡ each members_most (λ s. not (look s)) → OwingTo allow next t p2 pre xs gone p
  none-looked next t gone e s x a y = absurd (none_passes look (λ s l. held_in _ _ s (look_in s l)) (sym e) s (looked s x a y))

  module _ {next : List ℕ} {t : ℕ} {lost : ℕ → Bool} {gone xs' gone' : List ℕ} (f : Stuck allow next t xs p look lost) (taken : Taken p lost xs gone xs' gone') where
    pub row_moved : Moved allow next t xs gone xs' gone'
    row_moved = taken-moved taken allow next t (λ s l. look_in s (f.fewer s l)) f.none

    pub row-owing : OwingTo allow next t p2 pre xs' gone' p
    row-owing s x a y =
        ⊎_elim (λ l. absurd (T_not (lost s) (taken_not taken s x) l)) (onward-owed row_moved p s)
        (f.others s (looked s (taken-fewer taken p s x) a y))
