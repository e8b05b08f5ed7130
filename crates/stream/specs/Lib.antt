pub mod Played
pub mod Puts
pub mod Steps
