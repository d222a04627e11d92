-- What functions below the entry points promise each other: descriptions of inner loops and of the tables that they fill.
pub mod Sizes
pub mod Lines
pub mod Blocks
pub mod Refinement
pub mod Tables
pub mod Bounded
pub mod Stages
pub mod Signatures
pub mod Sides
pub mod Needed
