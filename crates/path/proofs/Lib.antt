-- The laws of the path program.
pub mod Digits
pub mod ShownPairs
