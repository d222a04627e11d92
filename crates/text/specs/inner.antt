-- What functions below the entry points promise each other: descriptions of inner loops and of the tables that they fill.
pub mod Readers
