-- Endless paths with recurring good states, through pairs of a state and a node: they start where finitely many steps lead into a set
-- whose every pair is good and has a step into the set, and nowhere else.
use mathlib.Core.Path.{◌≡◌, refl}
use mathlib.Core.Logic.{⊎_elim}
use Prim.Native.Nat.{ℕ, zero, suc, ◌*◌, ◌≤◌, ◌<◌}
use native.Mathlib.Nat.{eq-or-lt_of_le}
use native.Mathlib.Omega.{arith}
use native.Mathlib.Decide.{le_ind}
use mathlib.Core.Bool.{Bool, not, ◌&&◌}
use lib.Dec.{T, ltb, ltb→lt, lt→ltb, eqb, eqb→eq, eqb_refl}
use Rattle.sheets.proofs.Tests.{and_left, and_right, and_both, surely}
use Rattle.sheets.proofs.Search.{some, some_at, some_in}
use Rattle.sheets.proofs.Pigeonhole.{twice, pair, pair-below, pair-first, pair-second}
use Rattle.sheets.specs.Cycles.{Walk, step as first_step, more}

-- a structure and an automaton beside it: nodes and states are numbers from 1, and `allow q q' s` says that at node s the automaton
-- may go from state q to state q' (perhaps to several)
pub record Arena : Type 0 where
  pub nodes : ℕ
  pub states : ℕ
  pub edge : ℕ → ℕ → Bool
  pub allow : ℕ → ℕ → ℕ → Bool
  pub good : ℕ → Bool

-- a pair of a state and a node
pub record In (A : Arena) (q s : ℕ) : Type 0 where
  pub state-from : 1 ≤ q
  pub state-to : q ≤ A.states
  pub node-from : 1 ≤ s
  pub node-to : s ≤ A.nodes

-- a move from the pair (q, s) to the pair (q', s')
pub record Move (A : Arena) (q s q' s' : ℕ) : Type 0 where
  pub target : In A q' s'
  pub allowed : T (A.allow q q' s)
  pub moved : T (A.edge s s')

-- an endless path from (q, s) on which good states recur
pub record Endless (A : Arena) (q s : ℕ) : Type 0 where
  pub state : ℕ → ℕ
  pub node : ℕ → ℕ
  pub begins : state 0 ≡ q
  pub starts : node 0 ≡ s
  pub steps : (i : ℕ) → Move A (state i) (node i) (state (suc i)) (node (suc i))
  pub recurs : (i : ℕ) → (k : ℕ) × (i ≤ k) × T (A.good (state k))

-- ---- sets of pairs

abbrev pub Pairs : Type 0
Pairs = ℕ → ℕ → Bool

-- the pairs of Z are all in Z'
abbrev pub Within : Arena → Pairs → Pairs → Type 0
Within A Z Z' = (q s : ℕ) → In A q s → T (Z q s) → T (Z' q s)

-- some step from (q, s) leads into Z
abbrev pub into : Arena → Pairs → ℕ → ℕ → ℕ → ℕ → Bool
into A Z q s q' s' = A.allow q q' s && A.edge s s' && Z q' s'

unfoldable pub pre : Arena → Pairs → Pairs
unfolding some
pre A Z q s = some A.states (λ q'. some A.nodes (into A Z q s q'))

-- every pair of X is good and has a step into X
abbrev pub Lasting : Arena → Pairs → Type 0
Lasting A X = (q s : ℕ) → In A q s → T (X q s) → T (A.good q) × T (pre A X q s)

-- finitely many steps lead from (q, s) into X
pub data Reach (A : Arena) (X : Pairs) : ℕ → ℕ → Type 0 where
  here : {q s : ℕ} → T (X q s) → Reach A X q s
  there : {q s q' s' : ℕ} → Move A q s q' s' → Reach A X q' s' → Reach A X q s

module _ (A : Arena) (Z : Pairs) (q s : ℕ) where
  pub pre_at : T (pre A Z q s) → (q' s' : ℕ) × Move A q s q' s' × T (Z q' s')
  unfolding pre
  pre_at t =
      let a = some_at A.states (λ q'. some A.nodes (into A Z q s q')) t in
      let b = some_at A.nodes (into A Z q s a.0) a.3 in
      let move : Move A q s a.0 b.0 = record {
        target = record { state-from = a.1; state-to = a.2; node-from = b.1; node-to = b.2 };
        allowed = search (and_left, and_right, b.3);
        moved = search (and_left, and_right, b.3);
      } in
      (a.0, b.0, move, search (and_right, b.3))

  pub pre_in : (q' s' : ℕ) → Move A q s q' s' → T (Z q' s') → T (pre A Z q s)
  unfolding pre
  pre_in q' s' r z =
      let h = r.target in
      let t = and_both (A.allow q q' s && A.edge s s') (Z q' s') (and_both (A.allow q q' s) (A.edge s s') r.allowed r.moved) z in
      some_in A.states (λ q'. some A.nodes (into A Z q s q')) q' h.state-from h.state-to
      (some_in A.nodes (into A Z q s q') s' h.node-from h.node-to t)

-- ---- from a lasting set an endless path

-- one more step before a path
pub before : (A : Arena) (q s q' s' : ℕ) → Move A q s q' s' → Endless A q' s' → Endless A q s
before A q s q' s' r p = record {
  state = state;
  node = node;
  begins = refl;
  starts = refl;
  steps = steps;
  recurs = recurs;
}
  where
    state : ℕ → ℕ
    state zero = q
    state (suc i) = p.state i

    node : ℕ → ℕ
    node zero = s
    node (suc i) = p.node i

    steps : (i : ℕ) → Move A (state i) (node i) (state (suc i)) (node (suc i))
    steps zero = rw (p.begins, p.starts) r
    steps (suc i) = p.steps i

    recurs : (i : ℕ) → (k : ℕ) × (i ≤ k) × T (A.good (state k))
    recurs zero = let k = p.recurs 0 in (suc k.0, omega arith, k.2)
    recurs (suc i) = let k = p.recurs i in (suc k.0, omega arith, k.2)

module _ (A : Arena) (X : Pairs) (lasting : Lasting A X) where
  abbrev Spot : Type 0
  Spot = (q s : ℕ) × In A q s × T (X q s)

  next : (p : Spot) → (q' s' : ℕ) × Move A p.0 p.1 q' s' × T (X q' s')
  next p = pre_at A X p.0 p.1 (lasting p.0 p.1 p.2 p.3).1

  spot : Spot → ℕ → Spot
  spot p zero = p
  spot p (suc i) = let r = next (spot p i) in (r.0, r.1, r.2.target, r.3)

  stays : (q s : ℕ) → In A q s → T (X q s) → Endless A q s
  unfolding spot
  stays q s h x =
      let at = spot (q, s, h, x) in
      record {
        state = λ i. (at i).0;
        node = λ i. (at i).1;
        begins = refl;
        starts = refl;
        steps = λ i. (next (at i)).2;
        recurs = λ i. (i, omega arith, (lasting (at i).0 (at i).1 (at i).2 (at i).3).0);
      }

  -- from each pair that reaches a lasting set there is an endless path with good states recurring
  pub endless : {q s : ℕ} → In A q s → Reach A X q s → Endless A q s
  endless {q} {s} h (here x) = stays q s h x
  endless {q} {s} h (there {q' = q'} {s' = s'} r w) = before A q s q' s' r (endless r.target w)

-- ---- an endless path starts nowhere else

-- condition 1: no good and bad state have walks there and back
abbrev pub Apart : (ℕ → ℕ → Type 0) → (ℕ → Bool) → Type 0
Apart may good = (q q' : ℕ) → T (good q) → T (not (good q')) → Walk may q q' → Walk may q' q → ⊥

-- along a relation that has every step
pub record Separate (A : Arena) (may : ℕ → ℕ → Type 0) : Type 0 where
  pub follows : (q s q' s' : ℕ) → In A q s → Move A q s q' s' → may q q'
  pub apart : Apart may A.good

-- the pairs at the places after i and up to j
unfoldable pub stretch : (ℕ → ℕ) → (ℕ → ℕ) → ℕ → ℕ → Pairs
unfolding some
stretch state node i j q s = some j (λ k. ltb i k && (eqb (state k) q && eqb (node k) s))

module _ (state node : ℕ → ℕ) (i j : ℕ) where
  stretch-in : (k : ℕ) → i < k → k ≤ j → T (stretch state node i j (state k) (node k))
  unfolding stretch
  stretch-in k lo hi =
      let same = and_both (eqb (state k) (state k)) (eqb (node k) (node k)) (eqb_refl (state k)) (eqb_refl (node k)) in
      some_in j _ k (omega arith) hi (and_both (ltb i k) (eqb (state k) (state k) && eqb (node k) (node k)) (lt→ltb i k lo) same)

  stretch-at : (q s : ℕ) → T (stretch state node i j q s) → (k : ℕ) × (i < k) × (k ≤ j) × (state k ≡ q) × (node k ≡ s)
  unfolding stretch
  stretch-at q s t =
      let r = some_at j (λ k. ltb i k && (eqb (state k) q && eqb (node k) s)) t in
      let k = r.0 in (
        k,
        ltb→lt i k (search (and_left, r.3)),
        r.2,
        eqb→eq (state k) q (search (and_left, and_right, r.3)),
        eqb→eq (node k) s (search (and_right, r.3)),
      )

module _ (A : Arena) (q s : ℕ) (start : In A q s) (p : Endless A q s) where
  -- a path stays among the pairs
  pub in-range : (i : ℕ) → In A (p.state i) (p.node i)
  in-range zero = rw (p.begins, p.starts) start
  in-range (suc i) = (p.steps i).target

  -- the places of good states, one after another
  place : ℕ → ℕ
  place zero = (p.recurs 0).0
  place (suc i) = (p.recurs (suc (place i))).0

  place-good : (i : ℕ) → T (A.good (p.state (place i)))
  unfolding place
  place-good zero = (p.recurs 0).2
  place-good (suc i) = (p.recurs (suc (place i))).2

  place-rises : (i : ℕ) → place i < place (suc i)
  unfolding place
  place-rises i = (p.recurs (suc (place i))).1

  code : ℕ → ℕ
  code i = pair A.nodes (p.state i) (p.node i)

  code_below : (i : ℕ) → code i < suc A.states * suc A.nodes
  unfolding code
  code_below i = let r = in-range i in pair-below A.states A.nodes (p.state i) (p.node i) r.state-to r.node-to

  same-pair : (i j : ℕ) → code i ≡ code j → (p.state i ≡ p.state j) × (p.node i ≡ p.node j)
  unfolding code
  same-pair i j e =
      let a = (in-range i).node-to in
      let b = (in-range j).node-to in
      (pair-first A.nodes (p.state i) (p.node i) (p.state j) (p.node j) a b e, pair-second A.nodes (p.state i) (p.node i) (p.state j) (p.node j) a b e)

  -- two places, one after the other, with one pair that is good
  repeat : (i j : ℕ) × (i < j) × T (A.good (p.state i)) × (p.state i ≡ p.state j) × (p.node i ≡ p.node j)
  repeat =
      let r = twice (suc A.states * suc A.nodes) code place code_below place-rises in
      let e = same-pair (place r.0) (place r.1) r.4 in
      (place r.0, place r.1, r.3, place-good r.0, e.0, e.1)

  module _ (may : ℕ → ℕ → Type 0) (sep : Separate A may) where
    goes : (i : ℕ) → may (p.state i) (p.state (suc i))
    goes i = sep.follows (p.state i) (p.node i) (p.state (suc i)) (p.node (suc i)) (in-range i) (p.steps i)

    walk : (i j : ℕ) → i < j → Walk may (p.state i) (p.state j)
    walk i j l = le_ind (λ j. Walk may (p.state i) (p.state j)) (first_step (goes i)) (λ j k w. more w (goes j)) j l

    -- between two places with one state that is good every state is good
    between : (i j k : ℕ) → i < k → k < j → T (A.good (p.state i)) → p.state i ≡ p.state j → T (A.good (p.state k))
    between i j k l l' g e =
        surely (A.good (p.state k)) (λ n. sep.apart (p.state i) (p.state k) g n (walk i k l) (rw e (walk k j l')))

    -- so the stretch between two places with one pair lasts: its last place goes on as place i does
    module _ (i j : ℕ) (l : i < j) (g : T (A.good (p.state i))) (same-state : p.state i ≡ p.state j) (same-node : p.node i ≡ p.node j) where
      abbrev W : Pairs
      W = stretch p.state p.node i j

      goes_on : (k : ℕ) → i ≤ k → k < j → T (pre A W (p.state k) (p.node k))
      goes_on k lo hi =
          pre_in A W (p.state k) (p.node k) (p.state (suc k)) (p.node (suc k)) (p.steps k)
          (stretch-in p.state p.node i j (suc k) (omega arith) hi)

      stretch-place : (k : ℕ) → i < k → k ≤ j → T (A.good (p.state k)) × T (pre A W (p.state k) (p.node k))
      stretch-place k lo hi = ⊎_elim last inner (eq-or-lt_of_le hi)
        where
          last : k ≡ j → T (A.good (p.state k)) × T (pre A W (p.state k) (p.node k))
          last e = rw (e, ← same-state, ← same-node) (g, goes_on i (omega arith) l)

          inner : k < j → T (A.good (p.state k)) × T (pre A W (p.state k) (p.node k))
          inner m = (between i j k lo m g same-state, goes_on k (omega arith) m)

      stretch-lasts : Lasting A (stretch p.state p.node i j)
      stretch-lasts q s h t =
          let r = stretch-at p.state p.node i j q s t in
          rw (r.3, r.4) at (stretch-place r.0 r.1 r.2)

  -- a set that has the steps into it has the start of the path, if it has a later place
  back : (Y : Pairs) → Within A (pre A Y) Y → (j : ℕ) → T (Y (p.state j) (p.node j)) → T (Y q s)
  back Y closed zero y = rw (p.begins, p.starts) at y
  back Y closed (suc j) y =
      let t = pre_in A Y (p.state j) (p.node j) (p.state (suc j)) (p.node (suc j)) (p.steps j) y in
      back Y closed j (closed (p.state j) (p.node j) (in-range j) t)

-- The start of an endless path with good states recurring is in every set Y that has X and the steps into Y, where X has every lasting set.
pub met : (A : Arena) (may : ℕ → ℕ → Type 0) → Separate A may → (X Y : Pairs)
    → ((W : Pairs) → Lasting A W → Within A W X) → Within A X Y → Within A (pre A Y) Y
    → (q s : ℕ) → In A q s → Endless A q s → T (Y q s)
met A may sep X Y largest has closed q s h p =
    let r = repeat A q s h p in
    let j = r.1 in
    let lasts = stretch-lasts A q s h p may sep r.0 j r.2 r.3 r.4 r.5 in
    let w = stretch-in p.state p.node r.0 j j r.2 (omega arith) in
    let at = in-range A q s h p j in
    let x = largest (stretch p.state p.node r.0 j) lasts (p.state j) (p.node j) at w in
    back A q s h p Y closed j (has (p.state j) (p.node j) at x)
