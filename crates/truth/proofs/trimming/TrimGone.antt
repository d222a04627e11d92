-- Trimming by a row of what is gone: the row is emptied, and what was owed a step to it only has gone then.
use mathlib.Core.Path.{◌≡◌, sym, ◌∙◌}
use mathlib.Core.Logic.{◌⊎◌, inr, ◌↔◌, ⊎_elim, ⊎_map, by_cases}
use Prim.Native.Nat.{ℕ, ◌-◌, ◌<◌}
use native.Mathlib.Decide.{ℕ_discrete}
use mathlib.Core.List.{List}
use mathlib.Core.Bool.{Bool, true, false, not, and-false, true≢false}
use lib.Dec.{T, eqb}
use Rattle.sheets.specs.Words.{each}
use Rattle.sheets.proofs.Tests.{and_left, and_both, eqb_same, eqb-other}
use Rattle.truth.specs.Sizes.{members_most, cell}
use Rattle.truth.specs.inner.Rows.{rows_has}
use Rattle.truth.specs.inner.Pairs.{UpTo, Transposed, Before, Cleared, weight}
use Rattle.truth.specs.inner.Links.{Into}
use Rattle.truth.specs.inner.Trimmed.{Owed, Owing, OwingTo, Moved, Trimmed}
use Rattle.truth.proofs.rows.RowLaws.{held_in, one_passes}
use Rattle.truth.proofs.structure.EdgesBack.{back-of}
use Rattle.truth.proofs.PairWeights.{weight-falls}
use Rattle.truth.proofs.trimming.TrimMoves.{shrunk-none, owing-all}

-- ---- a row of what is gone
pub trimmed-idle : {allow next back : List ℕ} {t : ℕ} {xs gone : List ℕ} → Trimmed allow next back t xs gone xs gone false
trimmed-idle = record {
  shrunk = shrunk-none;
  owing = λ n tr u v o. o;
  less = λ e. absurd (true≢false (sym e));
  still = λ e p s x. x;
}

module _ {allow next : List ℕ} (back : List ℕ) {t : ℕ} {xs : List ℕ} (gone : List ℕ) (p2 : ℕ) {gone₁ xs' gone' : List ℕ} (pre : ℕ → Bool)
    (clears : Cleared p2 gone gone₁) (pre_is : (s : ℕ) → T (pre s) ↔ Before back (rows_has gone p2) s)
    (m : Moved allow next t xs gone₁ xs' gone') (into : List ℕ) (known : Into allow into t)
    (looked : (u : ℕ) → T (rows_has into p2 u) → OwingTo allow next t p2 pre xs' gone' (u - 1)) (below : p2 < t) (some : each members_most (λ s. not (rows_has gone p2 s)) ≡ false) where
  was-gone : (q s : ℕ) → T (rows_has gone₁ q s) → T (rows_has gone q s)
  was-gone q s x = and_left (rows_has gone q s) (not (eqb q p2)) (rw (clears.rows q s) at x)

  gains : (q s : ℕ) → T (rows_has gone' q s) → T (rows_has gone q s) ⊎ (T (rows_has xs q s) × T (not (rows_has xs' q s)))
  gains q s x = ⊎_map (was-gone q s) (λ w. w) (m.shrunk.gains q s x)

  -- what was owed a step to the row has been looked at
  owing : (n : ℕ) → Transposed n next back → UpTo n t xs → UpTo n t gone → Owing allow next t xs gone → Owing allow next t xs' gone'
  owing n tr u v o p s l x = ⊎_elim (λ y. (r.0, r.1, r.2, m.stays r.0 r.1 y)) (λ y. by_cases (ℕ_discrete r.0 p2) (row y) (keep y)) r.3
    where
      r : Owed allow next t xs gone p s
      r = o p s l (m.shrunk.fewer p s x)

      keep : T (rows_has gone r.0 r.1) → (r.0 ≡ p2 → ⊥) → Owed allow next t xs' gone' p s
      keep y e =
          let there : T (rows_has gone₁ r.0 r.1) = rw (clears.rows r.0 r.1, eqb-other r.0 p2 e) (and_both (rows_has gone r.0 r.1) true y tt) in
          (r.0, r.1, r.2, inr (m.keeps r.0 r.1 there))

      row : T (rows_has gone r.0 r.1) → r.0 ≡ p2 → Owed allow next t xs' gone' p s
      row y e =
          let h = r.2 in
          let z : T (rows_has gone p2 r.1) = rw e at y in
          let a : T (rows_has allow (cell p p2) s) = rw e at h.allowed in
          let w = held_in _ _ s x in
          let b = back-of n next back tr s r.1 (held_in _ _ r.1 z).0 (v p2 r.1 below z) w.0 w.1 (u p s l (m.shrunk.fewer p s x)) h.moves in
          owing-all into known p2 pre xs' gone' below looked p l s x a ((pre_is s).1 (r.1, z, b))

  falls : weight t (rows_has xs') (rows_has gone') < weight t (rows_has xs) (rows_has gone)
  falls =
      let f = one_passes (rows_has gone p2) some in
      weight-falls t (rows_has xs) (rows_has gone) (rows_has xs') (rows_has gone') m.shrunk.fewer gains p2 f.0 below f.1 f.2 f.3
      (λ y. ⊎_elim (λ z. absurd (rw (clears.rows p2 f.0, eqb_same p2, and-false (rows_has gone p2 f.0)) at z)) (λ w. w) (m.shrunk.gains p2 f.0 y))

  pub trimmed-row : Trimmed allow next back t xs gone xs' gone' true
  trimmed-row = record {
    shrunk = record {
      size = m.shrunk.size;
      size-gone = m.shrunk.size-gone ∙ clears.size;
      fewer = m.shrunk.fewer;
      gains = gains;
      largest = m.shrunk.largest;
    };
    owing = owing;
    less = λ e. falls;
    still = λ e. absurd (true≢false e);
  }
