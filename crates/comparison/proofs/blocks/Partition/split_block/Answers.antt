-- `split_block` meets its contract: the lines of the parts, and the parts of the rows.
use borrow.Author.Rules.{rules}
use native.Mathlib.Omega.{arith}
use Rattle.comparison.specs.inner.Lines.{split}
use Rattle.comparison.proofs.BlockTables.{lined-blocks}
use Rattle.comparison.proofs.blocks.Partition.split_block.Goals as goal

pub returns : goal.returns
unfolding split
returns c =
    let p = c.args.self.now in
    let s = c.push_split-lines.ensures in
    record {
      first = c.part.ensures;
      second = c.part-2.ensures;
      line = rw (s.inside, s.outside) (lined-blocks p.line p.count c.args.c p.lines.count (omega arith) (omega arith) (omega arith));
      words = s.pushed.adds;
      count = search rules;
      lines = s.pushed.count;
    }
