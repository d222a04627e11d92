-- `shorten` meets its contract: the line that stands for the last one, and the lines that it needs.
use Prim.Native.Nat.{◌≤◌}
use native.Mathlib.Omega.{arith}
use lib.ListN.{length}
use Rattle.comparison.specs.inner.Needed.{AllStand, Stands}
use Rattle.comparison.proofs.NeededLines.{shortened}
use Rattle.comparison.proofs.needed.shorten.Goals as goal
use Rattle.comparison.proofs.needed.shorten.Goals.{After-get-last}

-- the line that stands for the last one
last : (c : After-get-last) → Stands c.requires.listed.lines c.merge.new.self.same.places c.args.lines.now.count
last c =
    let p = c.requires.listed in
    let count = p.lists.count in
    c.merge.ensures p.a p.lines p.lists _ (omega arith) (omega arith)

pub mark-requires-clause-low : goal.mark-requires-clause-low
mark-requires-clause-low c = let st = last (goal.at.mark-requires-clause-low c).After-get-last in omega (arith, st.low, c.get-last.ensures)

pub mark-requires-clause-high : goal.mark-requires-clause-high
mark-requires-clause-high c = let st = last (goal.at.mark-requires-clause-high c).After-get-last in omega (arith, st.high, c.get-last.ensures)

pub copy_needed-requires : goal.copy_needed-requires
copy_needed-requires c = let st = last (goal.at.copy_needed-requires c).After-get-last in omega (arith, st.high, c.get-last.ensures)

pub returns-clause-few : goal.returns-clause-few
returns-clause-few c = let st = last (goal.at.returns-clause-few c).After-get-last in omega (arith, st.high, c.get-last.ensures, c.copy_needed.ensures.few)

pub returns-clause-shortened : goal.returns-clause-shortened
returns-clause-shortened c a ls lists =
    let len = lists.count in
    let st = last (goal.at.returns-clause-shortened c).After-get-last in
    let high = st.high in
    let e = c.get-last.ensures in
    let inside : c.get-last.result ≤ length ls = omega arith in
    let stands : AllStand ls (length ls) c.merge.new.self.same.places = rw len (c.merge.ensures a ls lists) in
    let closed = c.mark.ensures a ls lists inside stands in
    let copied = c.copy_needed.ensures.copied a ls lists inside stands closed in
    shortened a ls _ _ copied.0 _ _ _ (omega arith) stands (rw len e) closed c.copy_needed.ensures.few copied.1
