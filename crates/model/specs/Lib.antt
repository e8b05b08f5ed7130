pub mod World
pub mod Log
pub mod Closing
pub mod Claim
pub mod Resilient
pub mod Longest
pub mod Examples
pub mod Offers
