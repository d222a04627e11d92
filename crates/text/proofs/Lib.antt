-- The laws of texts.
pub mod Moving
pub mod Passing
pub mod Filling
pub mod HeldLines
pub mod Writing
pub mod RoundTrip
pub mod Answers
pub mod WorkedTexts
