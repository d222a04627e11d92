-- What functions below the entry points promise each other: descriptions of inner loops and of the tables that they fill.
pub mod Rows
pub mod Marks
pub mod Targets
pub mod Pairs
pub mod Links
pub mod Product
pub mod Trimmed
pub mod Growing
pub mod Trails
pub mod OneLine
pub mod Shows
pub mod Made
pub mod Tested
