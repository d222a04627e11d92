-- `room_behind` meets its contract: the last line of the text is as long as the page says.
use Rattle.std.proofs.Common.{◌≡◌, ◌≤◌, length, ◌∙◌, arith}
use Rattle.sentences.specs.Pages.{page_width, column}
use Rattle.sentences.proofs.Pages.{column-text, room-left}
use Rattle.sentences.proofs.page.Page.room_behind.Goals as goal

pub returns : goal.returns
returns g c =
    let p = c.self.inside in
    let inside : p.at ≤ length p.bytes = omega (arith, c.self.invariant.above.inside, c.self.told) in
    let whole : column c.args.self.now (length c.args.self.now) ≡ p.column =
    rw (← c.self.view_is) (column-text p.bytes p.at inside ∙ c.self.invariant.column) in
    let narrow : p.column ≤ page_width = omega (arith, c.self.invariant.above.narrow p.at (omega arith), c.self.invariant.column) in
    rw whole (room-left _ p.column _ narrow c.checked_sub.ensures)
