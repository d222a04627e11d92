-- The laws of the explaining program.
pub mod ToldRules
pub mod WrittenRules
pub mod Explanations
