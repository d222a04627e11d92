-- A mask as a set: its members are the valuations that it has, and their rows together are what it draws.
use mathlib.Core.Path.{◌≡◌}
use mathlib.Core.Logic.{◌↔◌, ⊎_elim}
use Prim.Native.Nat.{ℕ, ◌+◌, ◌-◌, ◌^◌, ◌≤◌, ◌<◌}
use native.Mathlib.Omega.{arith}
use mathlib.Core.List.{List}
use mathlib.Core.Bool.{Bool}
use lib.Dec.{T}
use Rattle.sheets.specs.Format.{word_bits}
use Rattle.sheets.specs.Words.{bit}
use Rattle.sheets.proofs.Search.{le-or-gt}
use Rattle.sheets.proofs.BitLaws.{bit-none, bit-above}
use Rattle.truth.specs.Sizes.{row_word_bits, high_first, valuations_most}
use Rattle.truth.specs.inner.Rows.{held}
use Rattle.truth.specs.inner.Pairs.{Before}
use Rattle.truth.specs.inner.Product.{Drawn}
use Rattle.truth.proofs.rows.RowLaws.{held_in, held_low, held_high}

module _ (mask : ℕ) (word : mask < 2 ^ word_bits) where
  -- a mask has no bit above the sixteenth
  few_bits : (w : ℕ) → T (bit mask w) → w < word_bits
  few_bits w b = ⊎_elim (λ le. absurd (rw (bit-above word_bits mask w word le) at b)) (λ lt. lt) (le-or-gt word_bits w)

  abbrev Member : ℕ → Type 0
  Member u = (1 ≤ u) × ((u ≤ valuations_most) × T (bit mask (u - 1)))

  pub mask-members : (u : ℕ) → T (held mask 0 u) ↔ Member u
  mask-members u = (to, λ m. rw (held_low mask 0 u m.0 (omega (arith, m.1.0))) m.1.1)
    where
      to : T (held mask 0 u) → Member u
      to t =
          let r = held_in mask 0 u t in
          ⊎_elim (λ le. let b : T (bit mask (u - 1)) = rw (held_low mask 0 u r.0 le) at t in (r.0, (omega (arith, few_bits (u - 1) b), b)))
          (λ gt. absurd (rw (held_high mask 0 u gt r.1, bit-none (u - high_first)) at t)) (le-or-gt u row_word_bits)

  pub drawn : (table : List ℕ) (set row : ℕ → Bool) → ((u : ℕ) → T (set u) ↔ Member u) → ((s : ℕ) → T (row s) ↔ Before table set s)
      → (s : ℕ) → T (row s) ↔ Drawn table mask s
  drawn table set row members is s = (
    λ t. let r = (is s).0 t in (r.0 - 1, ((members r.0).0 r.1).1.1, r.2),
    λ d.
        let e : d.0 + 1 - 1 ≡ d.0 = omega arith in
        let few = few_bits d.0 d.1 in
        (is s).1 (d.0 + 1, (members (d.0 + 1)).1 (omega arith, (omega arith, rw e d.1)), rw e d.2),
  )
