-- The definitions of the path program.
pub mod Arguments
pub mod Program
pub mod inner
