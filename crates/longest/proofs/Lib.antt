pub mod Quick
pub mod Reached
