pub mod Feed
pub mod Player
pub mod Laws
pub mod Steps
