-- A list of pairs of which the first are written one by one: its nodes are those written, then those of before; so are its states.
--     filled k ns ss ys    the first k nodes and states of ns and ss are stored in ys, as pairs, one after the other
use mathlib.Core.Path.{◌≡◌, refl, ap, ◌∙◌}
use Prim.Native.Nat.{ℕ, zero, suc, ◌≤◌}
use native.Mathlib.Numerals.{add-one}
use native.Mathlib.Omega.{arith}
use mathlib.Core.List.{List, [], ◌∷◌, ◌++◌, map}
use lib.ListN.{length, set, take, drop, get_or, length-set, length-map}
use Rattle.truth.specs.PathPairs.{pair_nodes, pair_states}
use Rattle.truth.specs.declared.pairs.Pair.{Pair}
use Rattle.truth.proofs.path.WrittenLists.{written_next}

abbrev pub pair : ℕ → ℕ → Pair
pair a b = record { node = a; state = b }

abbrev pub filled : ℕ → List ℕ → List ℕ → List Pair → List Pair
filled zero ns ss ys = ys
filled (suc k) ns ss ys = set (filled k ns ss ys) k (pair (get_or ns k 0) (get_or ss k 0))

pub filled-length : (k : ℕ) (ns ss : List ℕ) (ys : List Pair) → length (filled k ns ss ys) ≡ length ys
filled-length zero ns ss ys = refl
filled-length (suc k) ns ss ys =
    length-set (filled k ns ss ys) k (pair (get_or ns k 0) (get_or ss k 0)) ∙ filled-length k ns ss ys

map-set : (f : Pair → ℕ) (l : List Pair) (i : ℕ) (p : Pair) → map f (set l i p) ≡ set (map f l) i (f p)
map-set f [] i p = refl
map-set f (x ∷ l) zero p = refl
map-set f (x ∷ l) (suc i) p = ap (λ (r : List ℕ). f x ∷ r) (map-set f l i p)

-- either part f of the pairs, from the list of that part
part_filled : (f : Pair → ℕ) (from ns ss : List ℕ) (ys : List Pair) → ((i : ℕ) → f (pair (get_or ns i 0) (get_or ss i 0)) ≡ get_or from i 0)
    → (k : ℕ) → k ≤ length from → k ≤ length ys → map f (filled k ns ss ys) ≡ take k from ++ drop k (map f ys)
part_filled f from ns ss ys part zero hf hy = refl
part_filled f from ns ss ys part (suc k) hf hy =
    let size : length (map f ys) ≡ length ys = length-map ys f in
    map-set f (filled k ns ss ys) k (pair (get_or ns k 0) (get_or ss k 0)) ∙ ap (set (map f (filled k ns ss ys)) k) (part k)
    ∙ rw add-one at (written_next from (map f ys) (map f (filled k ns ss ys)) k (omega arith) (omega arith)
    (part_filled f from ns ss ys part k (omega arith) (omega arith)))

module _ (n : ℕ) (ns ss : List ℕ) (ys : List Pair) (hn : n ≤ length ns) (hs : n ≤ length ss) (hy : n ≤ length ys) where
  pub nodes-filled : pair_nodes (filled n ns ss ys) ≡ take n ns ++ drop n (pair_nodes ys)
  nodes-filled = part_filled (λ (p : Pair). p.node) ns ns ss ys (λ i. refl) n hn hy

  pub states-filled : pair_states (filled n ns ss ys) ≡ take n ss ++ drop n (pair_states ys)
  states-filled = part_filled (λ (p : Pair). p.state) ss ns ss ys (λ i. refl) n hs hy
