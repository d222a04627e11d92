-- Laws of growing: times, pairs added, turns, rounds.
pub mod RowTimes
pub mod RowAdditions
pub mod Spreading
pub mod GrowthTurn
pub mod GrowthRounds
