pub mod Lends
pub mod Leaving
