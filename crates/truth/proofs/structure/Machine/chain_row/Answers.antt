-- `chain_row` meets its contract: the tail itself, or what is gathered along the chain to its end or to the tail.
use borrow.Author.Rules.{rules}
use mathlib.Core.Path.{◌∙◌}
use Prim.Native.Nat.{◌<◌}
use Rattle.truth.specs.inner.Targets.{links_end, TailOf}
use Rattle.truth.proofs.structure.TargetRows.{chain-until}
use Rattle.truth.proofs.structure.Machine.chain_row.Goals as goal

pub returns-then-found : goal.returns-then-found
returns-then-found c t =
    c.union.ensures t ∙ ((let a = c.args in
    let known = c.for_chain-known in
    let none = c.no_targets-none in
    let edges = c.edges-e in
    let w = c.edges_walker.ensures in
    let small : edges.result < links_end = search rules in
    let of : TailOf a.self.now.words.now known.result.tail = rw known.ensures.words at known.result.shared in
    chain-until a.self.now.words.now known.result.tail of c.edges_walker.result edges.result a.x none.result c.along-found.result w.words w.base w.width w.at w.left edges.ensures small known.ensures.inside
    none.ensures.stop none.ensures.link none.ensures.none c.along-found.ensures) t).0 c.if-found.true

pub returns : goal.returns
returns c t = ((let a = c.args in
    let known = c.for_chain-known in
    let none = c.no_targets-none in
    let edges = c.edges-e in
    let w = c.edges_walker.ensures in
    let small : edges.result < links_end = search rules in
    let of : TailOf a.self.now.words.now known.result.tail = rw known.ensures.words at known.result.shared in
    chain-until a.self.now.words.now known.result.tail of c.edges_walker.result edges.result a.x none.result c.along-found.result w.words w.base w.width w.at w.left edges.ensures small known.ensures.inside
    none.ensures.stop none.ensures.link none.ensures.none c.along-found.ensures) t).1 c.if-found.false
