-- Growing a set of pairs: `ys` has the pairs met so far, `new` those of them from whose predecessors nothing was added yet, and
-- `times` when each was met. What one addition, one turn and one round change, and what holds in between.
use Rattle.std.specs.Prelude.{◌≡◌, ◌⊎◌, ◌↔◌, ℕ, ◌+◌, ◌≤◌, ◌<◌, List, Bool, not, ◌&&◌, ◌||◌, length, T, ltb}
use Rattle.truth.specs.Sizes.{members_most, table_rows, cell}
use Rattle.truth.specs.inner.Rows.{rows_has}
use Rattle.truth.specs.inner.Pairs.{PairStep, UpTo, Transposed, Before, Cleared, Reaches, time_of, Timed, Sooner, weight}

-- ---- what changes

-- the nodes of `f` have the time at position p where times are kept, all else its time before
pub record TimePut (f : ℕ → Bool) (p time : ℕ) (times times' : List ℕ) : Type 0 where
  pub size : length times' ≡ length times
  pub timed : Timed times → (s : ℕ) → T (f s) → time_of times' p s ≡ time
  pub rest : (q s : ℕ) → 1 ≤ s → s ≤ members_most → (q ≡ p → T (not (f s))) → time_of times' q s ≡ time_of times q s

-- the pairs of `e` are added: those not met before are new, and have the time where times are kept
pub record Spread (e : ℕ → ℕ → Bool) (time : ℕ) (ys new times ys' new' times' : List ℕ) : Type 0 where
  pub ys-size : length ys' ≡ length ys
  pub new-size : length new' ≡ length new
  pub times-size : length times' ≡ length times
  pub met : (p s : ℕ) → rows_has ys' p s ≡ (rows_has ys p s || e p s)
  pub fresh : (p s : ℕ) → rows_has new' p s ≡ (rows_has new p s || (e p s && not (rows_has ys p s)))
  pub kept : (p s : ℕ) → T (rows_has ys p s) → time_of times' p s ≡ time_of times p s
  pub timed : Timed times → (p s : ℕ) → T (not (rows_has ys p s)) → T (e p s) → time_of times' p s ≡ time

-- at node s the automaton may go from p to p', and `prev` has s
abbrev pub enters : List ℕ → ℕ → (ℕ → Bool) → ℕ → ℕ → Bool
enters allow p' prev p s = rows_has allow (cell p p') s && prev s

-- the pairs of the positions below k
abbrev pub below : ℕ → (ℕ → ℕ → Bool) → ℕ → ℕ → Bool
below k e p s = ltb p k && e p s

-- the pairs with a step to a new pair at p', which then is no more new, are added
pub record Turn (allow back : List ℕ) (t p' time : ℕ) (ys new times ys' new' times' : List ℕ) : Type 0 where
  pub prev : ℕ → Bool
  pub before : (s : ℕ) → T (prev s) ↔ Before back (rows_has new p') s
  pub cleared : List ℕ
  pub clears : Cleared p' new cleared
  pub spread : Spread (below t (enters allow p' prev)) time ys cleared times ys' new' times'

-- the last time that a number of the table may have
abbrev pub last_time : ℕ
last_time = 65535

-- ---- what falls: a pair not met may be met and then be new, once

abbrev pub left : ℕ → List ℕ → List ℕ → ℕ
left t ys new = weight t (λ p s. not (rows_has ys p s)) (rows_has new)

-- ---- what holds in between

pub record Growing (allow next : List ℕ) (n t : ℕ) (xs ys new times : List ℕ) (time : ℕ) : Type 0 where
  pub keeps : (p s : ℕ) → p < t → T (rows_has xs p s) → T (rows_has ys p s)
  pub reaches : (p s : ℕ) → p < t → T (rows_has ys p s) → Reaches allow next t xs p s
  pub fresh : (p s : ℕ) → p < t → T (rows_has new p s) → T (rows_has ys p s)
  pub up_to : UpTo n t ys
  pub done : (p s p' s' : ℕ) → p < t → PairStep allow next t p s p' s' → T (rows_has ys p' s') → T (rows_has ys p s) ⊎ T (rows_has new p' s')
  pub falls : Timed times → (p s : ℕ) → p < t → T (rows_has ys p s) → T (rows_has xs p s) ⊎ Sooner allow next t ys times p s
  pub early : Timed times → (p s : ℕ) → p < t → T (rows_has ys p s) → time_of times p s < time

-- turns one after the other, from one time to another
pub record Turns (allow back : List ℕ) (t time time' : ℕ) (ys new times ys' new' times' : List ℕ) : Type 0 where
  pub ys-size : length ys' ≡ length ys
  pub new-size : length new' ≡ length new
  pub times-size : length times' ≡ length times
  pub later : time ≤ time'
  pub fewer : time' + left t ys' new' ≤ time + left t ys new
  pub grows : (n : ℕ) (next xs : List ℕ) → Transposed n next back → UpTo n table_rows allow
      → Growing allow next n t xs ys new times time → Growing allow next n t xs ys' new' times' time'
