-- `turn` meets its contract. The invariant: the blocks have their marks, and where there is no block more, no "some next" of a block splits one before c. The
-- measure is the blocks that may still come, and then the blocks from c on.
use native.Mathlib.Omega.{arith}
use Prim.Native.Nat.{◌≤◌}
use Rattle.truth.specs.Passed.{nodes_most}
use Rattle.comparison.proofs.StagedSplits.{blocks-fit, lines_fit}
use Rattle.comparison.proofs.TurningBlocks.{turning-none, turning-on, mark-in, turning-room, turning-more}
use Rattle.comparison.proofs.blocks.Partition.turn.Goals as goal
use Rattle.comparison.proofs.blocks.Partition.turn.Goals.{In-Some}

-- the mark that the splitter tells
mark : (c : In-Some) → (1 ≤ c.in-Some.e) × (c.in-Some.e ≤ c.loop-c.self.count) × (c.in-Some.e ≤ nodes_most)
mark c =
    let b = c.block.ensures in
    mark-in _ _ _ _ _ _ _ c.loop-c.invariant c.loop-c-test.true c.in-Some.e (c.in-Some.ensures _ _ _ b.first b.second)

pub loop-c-init : goal.loop-c-init
loop-c-init c =
    let m = c.marks-marks.ensures in
    turning-none _ _ _ c.requires _ _ m.first m.second

pub loop-c-smaller-in-None : goal.loop-c-smaller-in-None
loop-c-smaller-in-None c = omega (arith, blocks-fit _ _ _ _ c.loop-c.invariant.staged)

pub loop-c-preserved-in-None : goal.loop-c-preserved-in-None
loop-c-preserved-in-None c =
    let at = c.loop-c in
    let b = c.block.ensures in
    turning-on _ _ _ _ _ _ _ at.invariant c.loop-c-test.true (c.in-None.ensures _ _ _ b.first b.second)

pub overflow_sub-e : goal.overflow_sub-e
overflow_sub-e c = omega (arith, mark (goal.at.overflow_sub-e c).In-Some)

pub bounds-self-e : goal.bounds-self-e
bounds-self-e c = omega (arith, mark (goal.at.bounds-self-e c).In-Some)

pub push-requires : goal.push-requires
push-requires c = omega (arith, lines_fit _ _ _ _ c.loop-c.invariant.staged)

pub overflow_sub-e-in-Some : goal.overflow_sub-e-in-Some
overflow_sub-e-in-Some c = omega (arith, mark (goal.at.overflow_sub-e-in-Some c).In-Some)

pub by_next-requires : goal.by_next-requires
by_next-requires c =
    let b = c.block.ensures in
    record {
      block = omega (arith, mark (goal.at.by_next-requires c).In-Some);
      room = turning-room _ _ _ _ _ _ _ c.loop-c.invariant c.loop-c-test.true _ (c.in-Some.ensures _ _ _ b.first b.second) c.push.new.self _ c.push.ensures.pushed;
    }

pub loop-c-smaller : goal.loop-c-smaller
loop-c-smaller c =
    let b = c.block.ensures in
    let r = turning-room _ _ _ _ _ _ _ c.loop-c.invariant c.loop-c-test.true _ (c.in-Some.ensures _ _ _ b.first b.second) c.push.new.self c.loop-c.self.few c.push.ensures.pushed in
    omega (arith, r.count, c.by_next.ensures.count)

pub loop-c-preserved : goal.loop-c-preserved
loop-c-preserved c =
    let b = c.block.ensures in
    let m = c.mark_block.ensures in
    turning-more _ _ _ _ _ _ _ c.loop-c.invariant c.loop-c-test.true _ (c.in-Some.ensures _ _ _ b.first b.second) c.push.new.self _ c.push.ensures.pushed
    c.by_next.new.self _ _ c.by_next.ensures m.first m.second
