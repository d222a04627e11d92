-- What functions below the entry points promise each other: what is handed to those that print.
pub mod AnsweredPairs
