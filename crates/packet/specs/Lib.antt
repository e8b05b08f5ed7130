pub mod Answers
pub mod Packet
pub mod Wording
pub mod Laws
