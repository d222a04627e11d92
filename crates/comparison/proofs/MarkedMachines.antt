-- The marked cases (a) to (d) of document 01: M1, M2 equal and M1 with itself equal, by one block of all the nodes; M1, M3 and M5, M6
-- unequal, by a written rule that the first machine keeps and the second does not.
use mathlib.Core.Path.{◌≡◌, refl}
use Prim.Native.Nat.{ℕ, zero, suc, ◌≤◌}
use native.Mathlib.Omega.{arith}
use mathlib.Core.List.{List, [], ◌∷◌}
use mathlib.Core.Bool.{Bool, not}
use Rattle.truth.specs.Passed.{M1, M2, M3, M5, M6, kripke, record_word, bit, each, any_of, chain, machine_refusal}
use Rattle.truth.specs.inner.Rows.{leads_into}
use Rattle.truth.proofs.Passed.{machine-cases}
use Rattle.comparison.specs.Comparison.{Equal}
use Rattle.comparison.specs.inner.Lines.{Entry, sig, neg, next, entry, Refers, Downward}
use Rattle.comparison.specs.inner.Blocks.{Exact}
use Rattle.comparison.proofs.ExactLines.{exact-sig, exact-neg, exact-next}
use Rattle.comparison.proofs.OneBlock.{one_block}
use Rattle.comparison.proofs.ToldByLines.{told}

-- ---- (a), (d)

pub case-a : Equal M1 M2
unfolding kripke record_word bit each
case-a = one_block M1 M2 machine-cases.m1 machine-cases.m2 refl tt tt 1 tt 1 tt

pub case-d : Equal M1 M1
unfolding kripke record_word bit each
case-d = one_block M1 M1 machine-cases.m1 machine-cases.m1 refl tt tt 1 tt 1 tt

-- ---- (b), (c)

-- (b): some next node has signal 1; (c): of every next node some next node has it
abbrev some_next : List Entry
some_next = sig 1 ∷ next 1 ∷ []

abbrev every_next : List Entry
every_next = sig 1 ∷ next 1 ∷ neg 2 ∷ next 3 ∷ neg 4 ∷ []

some-refers : (j : ℕ) → 1 ≤ j → j ≤ 2 → Refers 1 j (entry some_next j)
unfolding Refers entry
some-refers zero l h = absurd (omega arith)
some-refers (suc zero) l h = (omega arith, omega arith)
some-refers (suc (suc zero)) l h = (omega arith, omega arith)
some-refers (suc (suc (suc j))) l h = absurd (omega arith)

every-refers : (j : ℕ) → 1 ≤ j → j ≤ 5 → Refers 2 j (entry every_next j)
unfolding Refers entry
every-refers zero l h = absurd (omega arith)
every-refers (suc zero) l h = (omega arith, omega arith)
every-refers (suc (suc zero)) l h = (omega arith, omega arith)
every-refers (suc (suc (suc zero))) l h = (omega arith, omega arith)
every-refers (suc (suc (suc (suc zero)))) l h = (omega arith, omega arith)
every-refers (suc (suc (suc (suc (suc zero))))) l h = (omega arith, omega arith)
every-refers (suc (suc (suc (suc (suc (suc j)))))) l h = absurd (omega arith)

some-down : Downward 1 some_next
some-down = record { few = omega arith; refers = some-refers }

every-down : Downward 2 every_next
every-down = record { few = omega arith; refers = every-refers }

-- the sets where the last line is true
module _ (M : List ℕ) (ok : machine_refusal M ≡ 0) where
  abbrev some_set : ℕ → Bool
  some_set = leads_into M ((kripke M).signal 1)

  abbrev every_set : ℕ → Bool
  every_set s = not (leads_into M (λ t. not (leads_into M ((kripke M).signal 1) t)) s)

  some-exact : Exact M some_next 2 some_set
  unfolding entry
  some-exact =
      exact-next M ok 1 some_next some-down 2 (omega arith) (omega arith) 1 ((kripke M).signal 1) refl
      (exact-sig M ok 1 some_next some-down 1 (omega arith) (omega arith) 1 refl)

  every-exact : Exact M every_next 5 every_set
  unfolding entry
  every-exact =
      exact-neg M ok 2 every_next every-down 5 (omega arith) (omega arith) 4 (leads_into M (λ t. not (leads_into M ((kripke M).signal 1) t))) refl
      (exact-next M ok 2 every_next every-down 4 (omega arith) (omega arith) 3 (λ t. not (leads_into M ((kripke M).signal 1) t)) refl
      (exact-neg M ok 2 every_next every-down 3 (omega arith) (omega arith) 2 (leads_into M ((kripke M).signal 1)) refl
      (exact-next M ok 2 every_next every-down 2 (omega arith) (omega arith) 1 ((kripke M).signal 1) refl
      (exact-sig M ok 2 every_next every-down 1 (omega arith) (omega arith) 1 refl))))

pub case-b : Equal M1 M3 → ⊥
unfolding kripke record_word bit each any_of chain leads_into
case-b =
    told M1 M3 some_next some-down (omega arith) (some_set M1 machine-cases.m1) (some_set M3 machine-cases.m3) (some-exact M1 machine-cases.m1) (some-exact M3 machine-cases.m3)
    tt 1 tt tt

pub case-c : Equal M5 M6 → ⊥
unfolding kripke record_word bit each any_of chain leads_into
case-c =
    told M5 M6 every_next every-down (omega arith) (every_set M5 machine-cases.m5) (every_set M6 machine-cases.m6) (every-exact M5 machine-cases.m5) (every-exact M6 machine-cases.m6)
    tt 1 tt tt
