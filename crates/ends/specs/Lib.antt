pub mod Telling
pub mod Promise
