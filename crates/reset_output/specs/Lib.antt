pub mod Recover
pub mod Example
