-- `path_row` meets its contract: what the solved tables have at the initial position is the line's row.
use Rattle.sheets.specs.Positioned.{state_count, state_of, positioned}
use Rattle.truth.proofs.tables.TableLaws.{zero_word}
use Rattle.truth.proofs.lines.PathRows.{states-few, solvable, path-row-of}
use Rattle.truth.proofs.lines.Sheets.path_row.Goals as goal

pub by_position-a-requires : goal.by_position-a-requires
by_position-a-requires c = states-few c.requires

pub none-moves-requires : goal.none-moves-requires
none-moves-requires c = (solvable c.requires c.by_position-a.result c.by_position-a.ensures).few

pub solve_with-sets-requires : goal.solve_with-sets-requires
solve_with-sets-requires c = record {
  solvable = solvable c.requires c.by_position-a.result c.by_position-a.ensures;
  count = c.none-moves.ensures.count;
  none = c.none-moves.ensures.none;
  times = zero_word 1;
}

pub returns : goal.returns
returns c =
    let R = c.args.self.now.rules.now in
    let x = c.args.p.automaton in
    path-row-of c.requires (c.solve_with-sets.ensures (positioned R x) (state_count R x) (state_of R x) c.by_position-a.ensures) c.load.ensures.0 c.load.ensures.1
