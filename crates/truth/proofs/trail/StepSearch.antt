-- A search through positions for a step from a pair: by a closure that maps each of them to an Option, where it found nothing, the closure
-- was asked at all of them; and position by position.
use mathlib.Core.Path.{◌≡◌, ap}
use Prim.Native.Nat.{ℕ, ◌+◌, ◌-◌, ◌<◌}
use mathlib.Core.List.{List}
use mathlib.Core.Bool.{Bool, true, ◌&&◌}
use borrow.Author.Count.{below_more}
use lib.Dec.{T}
use Rattle.std.proofs.Common.{arith}
use denote.Param.Members.{Mut}
use Rattle.std.specs.Prelude.{Option, Some, None, IfSome, IsTrue}
use Rattle.std.specs.declared.ops.Range.{Range}
use Rattle.std.specs.Fn.{Called}
use Rattle.std.specs.Option.{option_map}
use Rattle.std.specs.Iterator.Runs.{SomeRun, AllItemsGive, CallKeepsClosure}
use Rattle.std.proofs.iter.Yields.{nat_range_steps}
use Rattle.std.proofs.iter.runs.Sources.{range_runs}
use Rattle.sheets.proofs.Tests.{and_left, and_right}
use Rattle.truth.specs.Sizes.{cell}
use Rattle.truth.specs.inner.Rows.{rows_has}
use Rattle.truth.specs.inner.Pairs.{PairStep, edge_in}

-- ---- by a closure

-- the item that is there passes, if all items do
here : (o : Option ℕ) (x : ℕ) (P : ℕ → Type 0) → option_map (λ y. y) o ≡ Some x → IfSome o P → P x
here None x P e m = let z : ◌≡◌ {A = ℕ} 0 1 = cc in absurd (grind arith)
here (Some y) x P e m = let f : y ≡ x = cc in rw f at m

module _ {F B : Type 0} {g : Mut F (ℕ × Unit {0}) (Option B)} {f : F} (n : ℕ) (N : ℕ → Type 0) where
  pub none-found : SomeRun nat_range_steps (record { start = 0; end = n }) (λ p. IsTrue p.whole × AllItemsGive p g f None) → CallKeepsClosure g f
      → ((x : ℕ) (q : F) → Called g f (x, tt) None q → N x) → (k : ℕ) → k < n → N k
  none-found ran keeps misses k l =
      let p = ran.0 in
      let up = range_runs p p.seen in
      let first : p.from.start ≡ 0 = ap (λ (s : Range ℕ). s.start) ran.1 in
      let last : p.from.end ≡ n = ap (λ (s : Range ℕ). s.end) ran.1 in
      let all : p.len ≡ p.from.end - p.from.start = up.1 ran.2.0 in
      let at : p.from.start + k ≡ k = omega arith in
      misses k f (here (p.at k) k (λ x. Called g f (x, tt) None f) (rw at at (up.3 k (omega arith))) (ran.2.1 keeps k))

-- ---- position by position
module _ (allow next : List ℕ) (t p u : ℕ) where
  -- no step from (p, u) leads to a pair of W at a position below k
  abbrev pub NoneBelow : (ℕ → ℕ → Type 0) → ℕ → Type 0
  NoneBelow W k = (j v : ℕ) → j < k → PairStep allow next t p u j v → W j v → ⊥

  pub none_first : (W : ℕ → ℕ → Type 0) → NoneBelow W 0
  none_first W j v l = absurd (omega arith)

  -- one position more
  pub none-next : (W : ℕ → ℕ → Type 0) (k : ℕ) → NoneBelow W k
      → ((v : ℕ) → PairStep allow next t p u k v → W k v → ⊥) → NoneBelow W (k + 1)
  none-next W k h here j v l = below_more (λ j. (v : ℕ) → PairStep allow next t p u j v → W j v → ⊥) k (λ j l v. h j v l) here j l v

  -- the row has the nodes of row k of a set that an edge leads to from u
  module _ (set : List ℕ) (k : ℕ) (row : ℕ → Bool) (h : (i : ℕ) → row i ≡ (edge_in next u i && rows_has set k i)) where
    pub leads-to : (v : ℕ) → k < t → rows_has allow (cell p k) u ≡ true → T (row v) → PairStep allow next t p u k v × T (rows_has set k v)
    leads-to v l e r =
        let both : T (edge_in next u v && rows_has set k v) = rw (h v) at r in
        (record { below = l; allowed = rw e tt; moves = and_left (edge_in next u v) _ both }, and_right (edge_in next u v) _ both)
