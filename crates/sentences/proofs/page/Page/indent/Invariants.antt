-- `indent` meets its contract: the blanks so far stand behind the text.
use Rattle.std.proofs.Common.{◌≡◌, ◌++◌}
use Rattle.sentences.specs.Pages.{blanks}
use Rattle.sentences.proofs.page.Page.indent.Given as goal

abbrev pub invariant-loop : goal.invariant-loop
invariant-loop l = l.self ≡ l.initial.self ++ blanks l.counter
