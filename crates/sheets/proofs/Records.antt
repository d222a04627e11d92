-- The chain from a record on, and what a walker has still to hand out.
use mathlib.Core.Path.{◌≡◌, refl, ap, ◌∙◌}
use Prim.Native.Nat.{ℕ, zero, suc, ◌-◌}
use native.Mathlib.Omega.{arith}
use mathlib.Core.Logic.{inl, inr, ⊎_elim}
use mathlib.Core.List.{List, [], ◌∷◌}
use mathlib.Core.Bool.{true, false, ◌||◌}
use lib.Dec.{eqb, eqb→eq}
use Rattle.sheets.specs.Words.{chain}
use Rattle.sheets.specs.Records.{record_word, record_at}
use Rattle.sheets.specs.inner.Walkers.{records, ahead, IsOver, present, moved_to}
use Rattle.sheets.specs.declared.walker.Record.{Record}
use Rattle.sheets.specs.declared.walker.Walker.{Walker}
use Rattle.sheets.proofs.Tests.{or_left, or_right, or_cases}

module _ (read : ℕ → ℕ → ℕ) (width : ℕ) where
  -- the chain from a record on, of which f records may still be read
  abbrev pub rest : ℕ → ℕ → List ℕ
  rest f x = chain f (λ y. read y (width - 1)) x

  records-end : (left : ℕ) → records read width left 0 ≡ []
  unfolding chain
  records-end zero = refl
  records-end (suc left) = refl

  records-more : (left x : ℕ) → (left ≡ 0 → ⊥) → (x ≡ 0 → ⊥) → records read width left x ≡ record_at read width x ∷ records read width (left - 1) (read x (width - 1))
  unfolding chain
  records-more zero x l n = absurd (l refl)
  records-more (suc left) zero l n = absurd (n refl)
  records-more (suc left) (suc x) l n = let e : suc left - 1 ≡ left = omega arith in rw e

module _ (w : Walker) where
  -- what the code's test of a walker says
  pub is_over : (eqb w.left 0 || eqb w.at 0) ≡ true → IsOver w
  is_over t = ⊎_elim (λ z. inl (eqb→eq w.left 0 z)) (λ z. inr (eqb→eq w.at 0 z)) (or_cases (eqb w.left 0) (eqb w.at 0) (rw t tt))

  pub not_over : (eqb w.left 0 || eqb w.at 0) ≡ false → IsOver w → ⊥
  not_over f = ⊎_elim (λ z. rw f at (or_left (eqb w.left 0) (eqb w.at 0) (rw z tt))) (λ z. rw f at (or_right (eqb w.left 0) (eqb w.at 0) (rw z tt)))

  -- at the chain's end, or where no more may be read
  pub none-ahead : (eqb w.left 0 || eqb w.at 0) ≡ true → ahead w ≡ []
  unfolding chain
  none-ahead t = ⊎_elim (λ z. rw z) (λ z. rw z (records-end (record_word w.words.now w.base w.width) w.width w.left)) (is_over t)

  -- where a walker stays as it is, nothing is handed out before or after
  pub over-stays : (v : Walker) → (eqb w.left 0 || eqb w.at 0) ≡ true → v ≡ w → ((ahead w ≡ []) × (ahead v ≡ [])) × (IsOver w × (v ≡ w))
  over-stays v t same = ((none-ahead t, ap ahead same ∙ none-ahead t), (is_over t, same))

  -- a record is handed out, and the walker moves to the one after it
  pub one-ahead : (s : Record) → (eqb w.left 0 || eqb w.at 0) ≡ false → s ≡ present w → ahead w ≡ s ∷ ahead (moved_to w s.next)
  one-ahead s f e =
      rw e (records-more (record_word w.words.now w.base w.width) w.width w.left w.at (λ z. not_over f (inl z)) (λ z. not_over f (inr z)))
