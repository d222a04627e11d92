-- The definitions of what programs read and print.
pub mod Limits
pub mod Bytes
pub mod Cut
pub mod Replies
pub mod Lines
pub mod Turns
pub mod Refusals
