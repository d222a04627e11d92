-- Laws of a trail through pairs: steps searched, a turn, the list of pairs, the loop that closes it, the arrays.
pub mod StepSearch
pub mod TrailTurns
pub mod TrailPairs
pub mod TrailLoops
pub mod TrailTables
