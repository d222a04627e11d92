-- `trail` meets its contract. The invariant: the pairs so far are listed, and `last` is the last of them. The measure is how many more could be listed.
use Prim.Native.Nat.{ℕ, ◌*◌, ◌≤◌, ◌<◌}
use native.Mathlib.Omega.{arith}
use Rattle.std.proofs.Props.{props}
use Rattle.std.proofs.Math.Logic.{∥∥₁_map}
use lib.ListN.{replicate, length-replicate}
use Rattle.truth.specs.Sizes.{positions_most, members_most, pairs_most}
use Rattle.truth.proofs.tables.TableLaws.{zero_word}
use Rattle.truth.proofs.trail.TrailTables.{told, both_told, looped_prop, start-range, listing-first, listing-below, listing-inside, listing-closed, listing-room, listing-more}
use Rattle.truth.proofs.trail.TrailTurns.{in-places}
use Rattle.truth.proofs.trail.Trace.trail.Goals as goal
use Rattle.truth.proofs.trail.Trace.trail.Goals.{Start, Else-back-ne0}

-- the start's range
start : (c : Start) → (1 ≤ c.args.self.now.start) × (c.args.self.now.start ≤ members_most)
start c = told (Prim.hlevel props) c.args.self.now.traceable (λ w. start-range w)

-- a pair that is not listed has room
room : (c : Else-back-ne0) → (c.loop-places.len < c.args.self.now.nodes * c.args.self.now.count) × (c.loop-places.len < pairs_most)
room c = both_told (Prim.hlevel props) c.args.self.now.traceable c.loop-places.invariant (λ w h. listing-room w h c.advance-last.ensures (rw c.pair_place-at.ensures at c.if-back-ne0.false))

pub overflow_cast-nodes : goal.overflow_cast-nodes
overflow_cast-nodes c = omega (arith, start (goal.at.overflow_cast-nodes c).Start)

pub overflow_sub-places : goal.overflow_sub-places
overflow_sub-places c = omega (arith, start (goal.at.overflow_sub-places c).Start)

pub bounds-places-s : goal.bounds-places-s
bounds-places-s c = omega (arith, start (goal.at.bounds-places-s c).Start)

pub invariant_of-last : goal.invariant_of-last
invariant_of-last c =
    let r : (c.loop-places.last.0 < positions_most) × (1 ≤ c.loop-places.last.1.0) × (c.loop-places.last.1.0 ≤ members_most) =
    both_told (Prim.hlevel props) c.args.self.now.traceable c.loop-places.invariant (λ w h. in-places w _ _ (listing-below w h) (listing-inside w h)) in
    record { position_below = r.0; node_from = r.1; node_to = r.2 }

pub loop-places-init : goal.loop-places-init
loop-places-init c = ∥∥₁_map c.args.self.now.traceable (λ w. listing-first w (replicate pairs_most 0) (length-replicate {A = ℕ} pairs_most 0) (zero_word pairs_most))

pub advance-last-requires : goal.advance-last-requires
advance-last-requires c = record {
  position = both_told (Prim.hlevel props) c.args.self.now.traceable c.loop-places.invariant (λ w h. listing-below w h);
  reached = both_told (Prim.hlevel props) c.args.self.now.traceable c.loop-places.invariant (λ w h. listing-inside w h);
}

pub returns-then-back-ne0 : goal.returns-then-back-ne0
returns-then-back-ne0 c =
    let at = c.pair_place-at.ensures in
    both_told (looped_prop _) c.args.self.now.traceable c.loop-places.invariant (λ w h. rw at (listing-closed w h c.advance-last.ensures (rw at at c.if-back-ne0.true)))

pub bounds-nodes-len : goal.bounds-nodes-len
bounds-nodes-len c = omega (arith, room (goal.at.bounds-nodes-len c).Else-back-ne0)

pub bounds-positions-len : goal.bounds-positions-len
bounds-positions-len c = omega (arith, room (goal.at.bounds-positions-len c).Else-back-ne0)

pub overflow_add-len : goal.overflow_add-len
overflow_add-len c = omega (arith, room (goal.at.overflow_add-len c).Else-back-ne0)

pub loop-places-smaller : goal.loop-places-smaller
loop-places-smaller c = omega (arith, room (goal.at.loop-places-smaller c).Else-back-ne0)

pub loop-places-preserved : goal.loop-places-preserved
loop-places-preserved c =
    let at = c.pair_place-at.ensures in
    both_told (Prim.hlevel props) c.args.self.now.traceable c.loop-places.invariant (λ w h. ∣ rw at (listing-more w h c.advance-last.ensures (rw at at c.if-back-ne0.false)) ∣₁)
