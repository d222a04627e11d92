-- The definitions of the comparing program.
pub mod Program
