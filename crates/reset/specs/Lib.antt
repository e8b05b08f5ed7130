pub mod World
pub mod Course
pub mod Closing
pub mod Claim
pub mod Same
pub mod Examples
