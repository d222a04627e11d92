-- What functions below the entry points promise each other: descriptions of inner loops and of the tables that they fill.
pub mod Walkers
pub mod Gathered
pub mod Positions
pub mod Lines
pub mod Transitions
pub mod Totality
pub mod Tabled
