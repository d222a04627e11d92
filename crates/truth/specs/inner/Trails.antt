-- A list of pairs that shows a path, by positions: the pairs that steps lead through from (0, s), and the place where the last goes back to.
use Rattle.std.specs.Prelude.{◌≡◌, ℕ, suc, ◌-◌, ◌*◌, ◌≤◌, ◌<◌, List, Option, IfSome, not, get_or, T}
use Rattle.sheets.specs.Format.{nodes_most}
use Rattle.truth.specs.Sizes.{positions_most, table_rows}
use Rattle.truth.specs.inner.Rows.{rows_has}
use Rattle.truth.specs.inner.Pairs.{PairStep, UpTo, time_of, Timed, Least, Lasts}

-- Places 1 to `len`, with the pair at place i; from `back` on all pairs are in `xs`, and no pair is there twice.
pub record Looped (allow next : List ℕ) (t n : ℕ) (xs : List ℕ) (s : ℕ) (node position : ℕ → ℕ) (len back : ℕ) : Type 0 where
  pub back_from : 1 ≤ back
  pub back_to : back ≤ len
  pub starts : node 1 ≡ s
  pub begins : position 1 ≡ 0
  pub steps : (i : ℕ) → 1 ≤ i → i < len → PairStep allow next t (position i) (node i) (position (suc i)) (node (suc i))
  pub steps_back : PairStep allow next t (position len) (node len) (position back) (node back)
  pub below : (i : ℕ) → 1 ≤ i → i ≤ len → position i < t
  pub lasting : (i : ℕ) → back ≤ i → i ≤ len → T (rows_has xs (position i) (node i))
  pub once : (i k : ℕ) → 1 ≤ i → i < k → k ≤ len → node i ≡ node k → position i ≡ position k → ⊥
  pub fits : len ≤ n * t

-- the tables that a trail goes by, of nodes 1 to n: a lasting set, and the pairs that reach it with their times
pub record Traceable (allow next : List ℕ) (t n : ℕ) (xs ys times : List ℕ) (s : ℕ) : Type 0 where
  pub few : t ≤ positions_most
  pub nodes : n ≤ nodes_most
  pub some : 1 ≤ t
  pub allow-up : UpTo n table_rows allow
  pub xs-up : UpTo n t xs
  pub lasts : Lasts allow next t (rows_has xs)
  pub least : Least allow next t xs ys times
  pub timed : Timed times
  pub found : T (rows_has ys 0 s)

-- the time of a pair is before the one that is told, if one is
abbrev pub Earlier : List ℕ → Option ℕ → ℕ → ℕ → Type 0
Earlier times before p s = IfSome before (λ time. time_of times p s < time)

-- so it is of a pair of the set
abbrev pub Wanted : List ℕ → List ℕ → Option ℕ → ℕ → ℕ → Type 0
Wanted set times before p s = T (rows_has set p s) × Earlier times before p s

-- no step from (p, u) leads to a pair of W at position k
abbrev pub NoStep : List ℕ → List ℕ → ℕ → ℕ → ℕ → (ℕ → ℕ → Type 0) → ℕ → Type 0
NoStep allow next t p u W k = (v : ℕ) → PairStep allow next t p u k v → W k v → ⊥

-- (p', u') is the pair after (p, u): one of `xs` after one of `xs`, and otherwise one of `ys` with an earlier time
pub record Advances (allow next : List ℕ) (t : ℕ) (xs ys times : List ℕ) (p u p' u' : ℕ) : Type 0 where
  pub steps : PairStep allow next t p u p' u'
  pub inside : T (rows_has ys p' u')
  pub lasting : T (rows_has xs p u) → T (rows_has xs p' u')
  pub falls : T (not (rows_has xs p u)) → time_of times p' u' < time_of times p u

-- the item at place i of a list, places from 1
abbrev pub placed : List ℕ → ℕ → ℕ
placed xs i = get_or xs (i - 1) 0
