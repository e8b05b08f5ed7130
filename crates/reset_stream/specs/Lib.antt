pub mod Recovered
pub mod Steps
