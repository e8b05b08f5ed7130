pub mod Electing
pub mod Entering
