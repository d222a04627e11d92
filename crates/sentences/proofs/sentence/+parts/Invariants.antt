-- The parts of a line and each part among them end: the measure is how many parts may still be opened, one in the other.
use Rattle.std.proofs.Common.{◌≡◌, ◌+◌, ◌*◌}
use Rattle.sentences.specs.Pages.{Kept}
use Rattle.sentences.proofs.sentence.+parts.Given as goal

abbrev pub decreases-put_part : goal.decreases-put_part
decreases-put_part l = 2 * l.at.deep

abbrev pub decreases-put_parts : goal.decreases-put_parts
decreases-put_parts l = 2 * l.at.deep + 1

abbrev pub invariant-put_parts-loop-l : goal.invariant-put_parts-loop-l
invariant-put_parts-loop-l l = record {
  deep : l.there.deep ≡ l.fn.at.deep;
  kept : Kept l.fn.page l.page;
}
