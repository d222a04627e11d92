-- Laws of the row of one line, from the rows above it.
pub mod ReadyTables
pub mod LineSolved
pub mod PathRows
pub mod DecodedKinds
pub mod LineRows
