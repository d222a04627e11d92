-- The definitions of the explaining program.
pub mod Verdicts
pub mod Program
