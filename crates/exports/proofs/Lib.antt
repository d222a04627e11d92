-- A law for the exports' proofs.
pub mod Flags
