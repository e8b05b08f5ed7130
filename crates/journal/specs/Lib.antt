pub mod Limits
pub mod Block
pub mod Walk
pub mod Read
pub mod Write
pub mod Wording
pub mod Laws
