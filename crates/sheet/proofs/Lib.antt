-- The laws of the program for one sheet.
pub mod SameWords
pub mod ToldSheets
