-- Laws of trimming: steps looked for, pairs taken, moved and gone, the first pass, rounds.
pub mod TrimSteps
pub mod TrimTaken
pub mod TrimMoves
pub mod TrimStart
pub mod TrimGone
pub mod TrimRounds
