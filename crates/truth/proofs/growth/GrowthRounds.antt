-- Turns of a growing set of pairs after each other: none, one, more; where the first turn starts, and that where nothing is new the set is the least.
use mathlib.Core.Path.{◌≡◌, ◌∙◌}
use mathlib.Core.Logic.{inl, inr, ⊎_elim}
use Prim.Native.Nat.{ℕ, ◌+◌, ◌≤◌, ◌<◌}
use native.Mathlib.Omega.{arith}
use mathlib.Core.List.{List}
use mathlib.Core.Bool.{false, not}
use Rattle.sheets.specs.Words.{each}
use Rattle.truth.specs.Sizes.{positions_most, members_most, pair_at}
use Rattle.truth.specs.inner.Rows.{rows_has}
use Rattle.truth.specs.inner.Pairs.{UpTo, NoRows, here, NoTime, Least}
use Rattle.truth.specs.inner.Growing.{Turn, Growing, Turns}
use Rattle.truth.proofs.rows.RowLaws.{one_passes}
use Rattle.truth.proofs.growth.GrowthTurn.{turn-fewer, turn-grows}

module _ {allow back : List ℕ} {t : ℕ} where
  pub turns_more : {time time' time'' : ℕ} {ys new times ys' new' times' ys'' new'' times'' : List ℕ}
      → Turns allow back t time time' ys new times ys' new' times' → Turns allow back t time' time'' ys' new' times' ys'' new'' times''
      → Turns allow back t time time'' ys new times ys'' new'' times''
  turns_more one two = record {
    ys-size = two.ys-size ∙ one.ys-size;
    new-size = two.new-size ∙ one.new-size;
    times-size = two.times-size ∙ one.times-size;
    later = omega arith;
    fewer = omega arith;
    grows = λ n next xs k u g. two.grows n next xs k u (one.grows n next xs k u g);
  }

  module _ {p time : ℕ} {ys new times ys' new' times' : List ℕ} (few : t ≤ positions_most) (l : p < t) (turn : Turn allow back t p time ys new times ys' new' times') where
    pub turns-one : each members_most (λ s. not (rows_has new p s)) ≡ false → Turns allow back t time (time + 1) ys new times ys' new' times'
    turns-one some =
        let u = one_passes (rows_has new p) some in
        record {
          ys-size = turn.spread.ys-size;
          new-size = turn.spread.new-size ∙ turn.clears.size;
          times-size = turn.spread.times-size;
          later = omega arith;
          fewer = omega (arith, turn-fewer turn u.0 l u.3);
          grows = λ n next xs. turn-grows turn l few;
        }

-- ---- the first turn and the last
module _ {allow next : List ℕ} {n t : ℕ} {xs : List ℕ} where
  pub growing-first : (times : List ℕ) → NoTime times → UpTo n t xs → Growing allow next n t xs xs xs times 1
  growing-first times zeros up_to = record {
    keeps = λ p s h x. x;
    reaches = λ p s h x. here x;
    fresh = λ p s h x. x;
    up_to = up_to;
    done = λ p s p' s' h st x. inr x;
    falls = λ r p s h x. inl x;
    early = λ r p s h x. omega (arith, zeros (pair_at p s));
  }

  pub growing-last : {ys new times : List ℕ} {time : ℕ} → Growing allow next n t xs ys new times time → NoRows t new → Least allow next t xs ys times
  growing-last g none = record {
    keeps = g.keeps;
    reaches = g.reaches;
    closed = λ p s p' s' h st x. ⊎_elim (λ y. y) (λ y. absurd (none p' st.below s' y)) (g.done p s p' s' h st x);
    falls = g.falls;
  }
