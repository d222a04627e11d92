-- `show` is safe and ends: the rows of the answer lie in the space.
use Rattle.label.proofs.LabelledRooms.{rows_fit}
use Rattle.label.proofs.show.Goals as goal

pub rows-requires : goal.rows-requires
rows-requires g c =
    rows_fit _ _ _ _ _ _ c.requires.answered c.in-Ok.is c.in-Ok-labelled.is
