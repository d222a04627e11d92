-- The transitions out of a state, gathered towards states that stand by position: one transition more, and what is gathered at the end,
-- in the terms of questions 12 to 14.
use Rattle.std.specs.Prelude.{◌≡◌, ℕ, ◌^◌, ◌<◌, List, not, ◌&&◌, ◌||◌, get_or, take, leb, ltb, eqb}
use Rattle.std.specs.Int.Bits.{bit_or}
use Rattle.sheets.specs.Format.{chained_most}
use Rattle.sheets.specs.Words.{bit, any_of, how_many}
use Rattle.sheets.specs.inner.Positions.{some_below, stands_at}
use Rattle.sheets.specs.Rules.{transitions_of, transition_target, mask, transitions_fit, leads}
use Rattle.sheets.specs.declared.walker.Record.{Record}
use Rattle.sheets.specs.declared.transitions.Leaving.{Leaving}

-- a transition with the target t and the mask m more, out of a state
pub record Left (a : Leaving) (t m : ℕ) (r : Leaving) : Type 0 where
  pub states : r.states ≡ a.states
  pub masks : (k w : ℕ) → k < a.states.count → bit (get_or r.masks k 0) w ≡ (bit (get_or a.masks k 0) w || (bit m w && eqb t (get_or a.states.numbers k 0)))
  pub met : (k : ℕ) → bit r.met.bits k ≡ (bit a.met.bits k || stands_at a.states.numbers a.states.count t k)
  pub led : (k : ℕ) → bit r.led.bits k ≡ (bit a.led.bits k || (not (eqb m 0) && stands_at a.states.numbers a.states.count t k))
  pub once : r.once ≡ bit_or a.once m
  pub twice : (w : ℕ) → bit r.twice w ≡ (bit a.twice w || (bit a.once w && bit m w))
  pub fits : r.fits ≡ (a.fits && (some_below chained_most (stands_at a.states.numbers a.states.count t) && not (some_below chained_most (λ k. stands_at a.states.numbers a.states.count t k && bit a.met.bits k))))

-- one transition more
abbrev pub LeavingTaken : Leaving → Record → Leaving → Type 0
LeavingTaken a s r = Left a s.first s.second r

-- What a has of the transitions out of state q, towards the first n of the states.
pub record Leaves (R states : List ℕ) (n q : ℕ) (a : Leaving) : Type 0 where
  -- masks fit v variables, targets are among the states, none twice
  pub fitting : (v : ℕ) → (a.fits && ltb a.once (2 ^ (2 ^ v))) ≡ transitions_fit R v (take n states) (transitions_of R q)
  -- at least one transition, and at least two, are taken under a valuation
  pub some : (w : ℕ) → bit a.once w ≡ leb 1 (how_many (transitions_of R q) (λ y. bit (mask R y) w))
  pub several : (w : ℕ) → bit a.twice w ≡ leb 2 (how_many (transitions_of R q) (λ y. bit (mask R y) w))
  -- the positions to which a transition with a nonzero mask leads
  pub leading : (k : ℕ) → bit a.led.bits k ≡ (ltb k n && leads R q (get_or states k 0))
  -- by position the valuations under which q goes there
  pub goes : (k w : ℕ) → k < n → bit (get_or a.masks k 0) w ≡ any_of (transitions_of R q) (λ y. bit (mask R y) w && eqb (transition_target R y) (get_or states k 0))
