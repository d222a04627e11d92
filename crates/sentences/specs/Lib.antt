-- The definitions of pages.
pub mod Pages
