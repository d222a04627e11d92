-- The definitions of the program for one sheet.
pub mod Arguments
pub mod Program
