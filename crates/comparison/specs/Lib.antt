-- The definitions of comparison.
pub mod Comparison
pub mod CompareAnswers
pub mod inner
