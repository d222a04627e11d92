-- `row_of_line` meets its contract: the decoded line is the line of the definitions, and each arm makes the row of its operation.
use mathlib.Core.Path.{sym, ◌∙◌}
use mathlib.Core.Bool.{true, false}
use Rattle.truth.proofs.lines.DecodedKinds.{told}
use Rattle.truth.proofs.lines.LineRows.{negation-above, either-above, path-ready, malformed-row, signal-row, negation-row, either-row, path-row}
use Rattle.truth.proofs.lines.Sheets.row_of_line.Goals as goal

pub returns-in_default : goal.returns-in_default
returns-in_default c =
    malformed-row c.requires (sym c.decode.ensures ∙ c.in_default.is)

pub negation_row-requires : goal.negation_row-requires
negation_row-requires c =
    let k = negation-above c.requires (told c.args.self.now.rules.now c.args.j c.decode.ensures c.in-Some.is c.in-Negation.is) in
    record { above = k.0; room = k.1 }

pub either_row-requires : goal.either_row-requires
either_row-requires c =
    let r = either-above c.requires (told c.args.self.now.rules.now c.args.j c.decode.ensures c.in-Some.is c.in-Either.is) in
    record { first = r.0.0; first_room = r.0.1; second = r.1.0; second_room = r.1.1 }

pub path_row-requires : goal.path_row-requires
path_row-requires c = path-ready c.requires false _ (told c.args.self.now.rules.now c.args.j c.decode.ensures c.in-Some.is c.in-SomePath.is)

pub path_row-requires-in-SomePathNot : goal.path_row-requires-in-SomePathNot
path_row-requires-in-SomePathNot c = path-ready c.requires true _ (told c.args.self.now.rules.now c.args.j c.decode.ensures c.in-Some.is c.in-SomePathNot.is)

pub returns-in-Signal : goal.returns-in-Signal
returns-in-Signal c = signal-row c.requires (told c.args.self.now.rules.now c.args.j c.decode.ensures c.in-Some.is c.in-Signal.is) c.signal_row.ensures

pub returns-in-Negation : goal.returns-in-Negation
returns-in-Negation c = negation-row c.requires (told c.args.self.now.rules.now c.args.j c.decode.ensures c.in-Some.is c.in-Negation.is) c.negation_row.ensures

pub returns-in-Either : goal.returns-in-Either
returns-in-Either c = either-row c.requires (told c.args.self.now.rules.now c.args.j c.decode.ensures c.in-Some.is c.in-Either.is) c.either_row.ensures

pub returns-in-SomePath : goal.returns-in-SomePath
returns-in-SomePath c = path-row c.requires false _ (told c.args.self.now.rules.now c.args.j c.decode.ensures c.in-Some.is c.in-SomePath.is) c.path_row.ensures

pub returns-in-SomePathNot : goal.returns-in-SomePathNot
returns-in-SomePathNot c = path-row c.requires true _ (told c.args.self.now.rules.now c.args.j c.decode.ensures c.in-Some.is c.in-SomePathNot.is) c.path_row-in-SomePathNot.ensures
