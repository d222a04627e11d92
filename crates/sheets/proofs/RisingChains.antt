-- Chains rise: a link leads to a higher number, so the records of a chain stand in rising order, and none is on it twice.
use mathlib.Core.Path.{◌≡◌, refl, sym, ◌∙◌, ap, subst}
use mathlib.Core.Logic.{◌⊎◌, ⊎_elim}
use Prim.Native.Nat.{ℕ, zero, suc, ◌+◌, ◌≤◌, ◌<◌}
use native.Mathlib.Omega.{arith}
use mathlib.Core.List.{List, [], ◌∷◌}
use lib.ListN.{length, get_or}
use Rattle.sheets.specs.Words.{chain}
use Rattle.sheets.specs.Machine.{edges, next_edge, machine_refusal}
use Rattle.sheets.specs.MachineForms.{q5}
use Rattle.sheets.specs.Rules.{Form, states, automata, next_state, initial, states_of, rule_refusal, q10}
use Rattle.sheets.proofs.Tests.{and_right}
use Rattle.sheets.proofs.Search.{le-or-gt, each_at}
use Rattle.sheets.proofs.Chains.{link-rises}
use Rattle.sheets.proofs.Questions.{machine-answers, rule-answers}
use Rattle.sheets.proofs.AcceptedRule.{initial-in}

-- a link is none, or a higher record's number
abbrev pub Rising : ℕ → (ℕ → ℕ) → Type 0
Rising m next = (x : ℕ) → 1 ≤ x → x ≤ m → (next x ≡ 0) ⊎ ((x < next x) × (next x ≤ m))

module _ (m : ℕ) (next : ℕ → ℕ) (rising : Rising m next) where
  -- a chain with a record begins with one
  not-empty : (f x k : ℕ) → k < length (chain f next x) → 1 ≤ x
  unfolding chain
  not-empty zero x k l = absurd (omega arith)
  not-empty (suc f) zero k l = absurd (omega arith)
  not-empty (suc f) (suc x) k l = omega arith

  -- the record after x, where the chain goes on
  goes-up : (f x k : ℕ) → 1 ≤ x → x ≤ m → k < length (chain f next (next x)) → (x < next x) × (next x ≤ m)
  goes-up f x k lo hi l = ⊎_elim (λ e. absurd (omega (arith, not-empty f (next x) k l))) (λ r. r) (rising x lo hi)

  -- no record of a chain is below its first
  from_first : (f i k : ℕ) → i ≤ m → k < length (chain f next i) → i ≤ get_or (chain f next i) k 0
  unfolding chain
  from_first zero i k h l = absurd (omega arith)
  from_first (suc f) zero k h l = absurd (omega arith)
  from_first (suc f) (suc i) zero h l = omega arith
  from_first (suc f) (suc i) (suc k) h l =
      let r = goes-up f (suc i) k (omega arith) h (omega arith) in omega (arith, from_first f (next (suc i)) k r.1 (omega arith))

  pub chain-rises : (f i a b : ℕ) → i ≤ m → a < b → b < length (chain f next i) → get_or (chain f next i) a 0 < get_or (chain f next i) b 0
  unfolding chain
  chain-rises zero i a b h l k = absurd (omega arith)
  chain-rises (suc f) zero a b h l k = absurd (omega arith)
  chain-rises (suc f) (suc i) a zero h l k = absurd (omega arith)
  chain-rises (suc f) (suc i) zero (suc b) h l k =
      let r = goes-up f (suc i) b (omega arith) h (omega arith) in omega (arith, from_first f (next (suc i)) b r.1 (omega arith))
  chain-rises (suc f) (suc i) (suc a) (suc b) h l k =
      let r = goes-up f (suc i) b (omega arith) h (omega arith) in chain-rises f (next (suc i)) a b r.1 (omega arith) (omega arith)

  -- however many records may be read, if they are enough
  pub chain-enough : (f g x : ℕ) → x ≤ m → m < f + x → m < g + x → chain f next x ≡ chain g next x
  unfolding chain
  chain-enough zero g x h a b = absurd (omega arith)
  chain-enough (suc f) zero x h a b = absurd (omega arith)
  chain-enough (suc f) (suc g) zero h a b = refl
  chain-enough (suc f) (suc g) (suc x) h a b =
      ap (λ ys. suc x ∷ ys)
      (⊎_elim (λ e. subst (λ y. chain f next y ≡ chain g next y) (sym e) (none f ∙ sym (none g))) (λ r. chain-enough f g (next (suc x)) r.1 (omega (arith, r.0)) (omega (arith, r.0)))
      (rising (suc x) (omega arith) h))
    where
      none : (f : ℕ) → chain f next 0 ≡ []
      none zero = refl
      none (suc f) = refl

-- the links of an accepted machine's edges
pub edges-rise : (M : List ℕ) → machine_refusal M ≡ 0 → Rising (edges M) (next_edge M)
unfolding q5
edges-rise M accepted x lo hi =
    link-rises (edges M) x (next_edge M x) (search (and_right, each_at (edges M) _ (machine-answers M accepted).five x lo hi))

-- the states of an accepted sheet's automaton stand at one position each
module _ (F : Form) (R : List ℕ) (accepted : rule_refusal F R ≡ 0) (x : ℕ) (lo : 1 ≤ x) (hi : x ≤ automata R) where
  links-rise : Rising (states R) (next_state R)
  unfolding q10
  links-rise q a b =
      link-rises (states R) q (next_state R q) (search (and_right, each_at (states R) _ (rule-answers F R accepted).ten q a b))

  rises-at : (a b : ℕ) → a < b → b < length (states_of R x) → get_or (states_of R x) a 0 < get_or (states_of R x) b 0
  rises-at a b l k = chain-rises (states R) (next_state R) links-rise (states R) (initial R x) a b (initial-in F R accepted x lo hi).1 l k

  pub one-position : (a b : ℕ) → a < length (states_of R x) → b < length (states_of R x) → get_or (states_of R x) a 0 ≡ get_or (states_of R x) b 0 → a ≡ b
  one-position a b k l e =
      ⊎_elim (λ le. ⊎_elim (λ ge. omega arith) (λ gt. absurd (omega (arith, rises-at a b gt l))) (le-or-gt b a)) (λ gt. absurd (omega (arith, rises-at b a gt k)))
      (le-or-gt a b)
