-- The definitions of the labelling program.
pub mod Program
pub mod inner
