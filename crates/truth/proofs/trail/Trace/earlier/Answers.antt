-- `earlier` meets its contract: its closure answers whether a node's time is before the one that is told.
use Rattle.std.proofs.Common.{rules}
use borrow.Author.Tests.{tests}
use Prim.Native.Nat.{◌<◌}
use Rattle.truth.specs.inner.Pairs.{time_of}
use Rattle.truth.proofs.MemberSearches.{first_member}
use Rattle.truth.proofs.trail.Trace.earlier.Goals as goal

pub returns : goal.returns
returns c =
    let a = c.args in
    rw c.in-Some.is
    (rw c.members.ensures at
    (first_member (λ v. time_of a.self.now.solved.now.times a.k v < c.in-Some.time) _ _ _ c.find.result (λ x q k. search (rules, tests)) (λ x q k. search (rules, tests)) c.find.ensures.ran))
