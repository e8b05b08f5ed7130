pub mod Job
pub mod Sound
pub mod Feed
pub mod Wording
pub mod Count
pub mod Laws
