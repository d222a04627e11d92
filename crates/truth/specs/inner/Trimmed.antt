-- Trimming: pairs are taken out of a set `xs` where no step leads from them into it, and wait in `gone` until the pairs with a step
-- to them have been looked at.
use Rattle.std.specs.Prelude.{◌≡◌, ◌⊎◌, ℕ, ◌<◌, List, Bool, true, false, not, ◌&&◌, ◌||◌, length, T}
use Rattle.truth.specs.Sizes.{cell}
use Rattle.truth.specs.inner.Rows.{rows_has}
use Rattle.truth.specs.inner.Pairs.{PairStep, UpTo, Transposed, Before, Onward, Lasts, Inside, weight}

-- some number below t
abbrev pub SomeBelow : ℕ → (ℕ → Type 0) → Type 0
SomeBelow t P = (k : ℕ) × (k < t) × P k

-- a node is in both rows
abbrev pub Common : (ℕ → Bool) → (ℕ → Bool) → Type 0
Common a b = (u : ℕ) × T (a u) × T (b u)

-- at s the automaton may go from p to k, whose row of `xs` has a node of `to`
abbrev pub Meeting : List ℕ → List ℕ → (ℕ → Bool) → ℕ → ℕ → ℕ → Type 0
Meeting allow xs to p s k = T (rows_has allow (cell p k) s) × Common to (rows_has xs k)

-- of the nodes of `look`, `out` has those from which no step from p leads into `xs`
pub record Stuck (allow next : List ℕ) (t : ℕ) (xs : List ℕ) (p : ℕ) (look out : ℕ → Bool) : Type 0 where
  pub fewer : (s : ℕ) → T (out s) → T (look s)
  pub none : (s : ℕ) → T (out s) → Onward allow next t (rows_has xs) p s → ⊥
  pub others : (s : ℕ) → T (look s) → T (out s) ⊎ Onward allow next t (rows_has xs) p s

-- the nodes of `lost` went from row p of `xs` to row p of `gone`
pub record Taken (p : ℕ) (lost : ℕ → Bool) (xs gone xs' gone' : List ℕ) : Type 0 where
  pub size : length xs' ≡ length xs
  pub size-gone : length gone' ≡ length gone
  pub here : (s : ℕ) → rows_has xs' p s ≡ (rows_has xs p s && not (lost s))
  pub here-gone : (s : ℕ) → rows_has gone' p s ≡ (rows_has gone p s || lost s)
  pub other : (q s : ℕ) → (q ≡ p → ⊥) → rows_has xs' q s ≡ rows_has xs q s
  pub other-gone : (q s : ℕ) → (q ≡ p → ⊥) → rows_has gone' q s ≡ rows_has gone q s

-- a step from (p, s) leads to a pair of `xs` or of `gone`
abbrev pub Owed : List ℕ → List ℕ → ℕ → List ℕ → List ℕ → ℕ → ℕ → Type 0
Owed allow next t xs gone p s = (p' s' : ℕ) × PairStep allow next t p s p' s' × (T (rows_has xs p' s') ⊎ T (rows_has gone p' s'))

-- so it is from every pair of `xs`
abbrev pub Owing : List ℕ → List ℕ → ℕ → List ℕ → List ℕ → Type 0
Owing allow next t xs gone = (p s : ℕ) → p < t → T (rows_has xs p s) → Owed allow next t xs gone p s

-- the pairs of `xs` with a step to p2 and a node of `row` are owed a step
abbrev pub OwingTo : List ℕ → List ℕ → ℕ → ℕ → (ℕ → Bool) → List ℕ → List ℕ → ℕ → Type 0
OwingTo allow next t p2 row xs gone p =
    (s : ℕ) → T (rows_has xs p s) → T (rows_has allow (cell p p2) s) → T (row s) → Owed allow next t xs gone p s

-- pairs went from `xs`, none of a lasting set, and only they came into `gone`
pub record Shrunk (allow next : List ℕ) (t : ℕ) (xs gone xs' gone' : List ℕ) : Type 0 where
  pub size : length xs' ≡ length xs
  pub size-gone : length gone' ≡ length gone
  pub fewer : (p s : ℕ) → T (rows_has xs' p s) → T (rows_has xs p s)
  pub gains : (p s : ℕ) → T (rows_has gone' p s) → T (rows_has gone p s) ⊎ (T (rows_has xs p s) × T (not (rows_has xs' p s)))
  pub largest : (W : ℕ → ℕ → Bool) → Lasts allow next t W → Inside t W xs → Inside t W xs'

-- all that went came into `gone`, which keeps what it had
pub record Moved (allow next : List ℕ) (t : ℕ) (xs gone xs' gone' : List ℕ) : Type 0 where
  pub shrunk : Shrunk allow next t xs gone xs' gone'
  pub stays : (p s : ℕ) → T (rows_has xs p s) → T (rows_has xs' p s) ⊎ T (rows_has gone' p s)
  pub keeps : (p s : ℕ) → T (rows_has gone p s) → T (rows_has gone' p s)

-- rows of `gone` were emptied, and what had steps to them only went from `xs` to `gone`; r tells whether there was anything to do
pub record Trimmed (allow next back : List ℕ) (t : ℕ) (xs gone xs' gone' : List ℕ) (r : Bool) : Type 0 where
  pub shrunk : Shrunk allow next t xs gone xs' gone'
  pub owing : (n : ℕ) → Transposed n next back → UpTo n t xs → UpTo n t gone → Owing allow next t xs gone → Owing allow next t xs' gone'
  pub less : r ≡ true → weight t (rows_has xs') (rows_has gone') < weight t (rows_has xs) (rows_has gone)
  pub still : r ≡ false → (p s : ℕ) → T (rows_has gone' p s) → T (rows_has gone p s)

-- at s the automaton may go from p to a position whose row has a node that s is before
abbrev pub Ahead : List ℕ → List ℕ → ℕ → List ℕ → ℕ → ℕ → Type 0
Ahead allow back t xs p s = SomeBelow t (λ k. T (rows_has allow (cell p k) s) × Before back (rows_has xs k) s)

-- the pairs of positions below k that have nothing ahead went from `xs` to an empty `gone`
pub record Started (allow back : List ℕ) (t k : ℕ) (xs xs' gone' : List ℕ) : Type 0 where
  pub size : length xs' ≡ length xs
  pub fewer : (p s : ℕ) → T (rows_has xs' p s) → T (rows_has xs p s)
  pub ahead : (p s : ℕ) → p < k → T (rows_has xs' p s) → Ahead allow back t xs p s
  pub stays : (p s : ℕ) → T (rows_has xs p s) → T (rows_has xs' p s) ⊎ T (rows_has gone' p s)
  pub takes : (p s : ℕ) → T (rows_has gone' p s) → T (rows_has xs p s)
  pub none : (p s : ℕ) → T (rows_has gone' p s) → Ahead allow back t xs p s → ⊥
