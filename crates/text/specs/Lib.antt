-- The definitions of texts of decimal words.
pub mod Texts
pub mod Lines
pub mod Layout
pub mod inner
