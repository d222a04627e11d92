-- Laws of tables of rows.
pub mod TableLaws
pub mod LinkedSets
pub mod RowBits
