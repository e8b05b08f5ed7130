pub mod Lines
pub mod Parts
pub mod Play
pub mod Feed
pub mod Player
pub mod Laws
pub mod Steps
