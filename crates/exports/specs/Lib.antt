-- The definitions of exports: answers as numbers.
pub mod Numbers
