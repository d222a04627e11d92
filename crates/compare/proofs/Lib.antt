-- The laws of the comparing program.
pub mod Comparing
pub mod PrintedLines
pub mod MarkedCases
