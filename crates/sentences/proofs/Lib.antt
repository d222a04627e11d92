-- The laws of pages.
pub mod Pages
