pub mod Places
pub mod Sound
pub mod Steps
