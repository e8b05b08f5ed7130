pub mod Codes
pub mod Answers
pub mod Founds
pub mod Writing
