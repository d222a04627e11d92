-- The laws of input.
pub mod Passed
pub mod WordLists
pub mod ByteLists
pub mod Cuts
pub mod RefusedLine
pub mod JoinedSheets
pub mod WorkedInput
pub mod Turning
pub mod AskedCalls
