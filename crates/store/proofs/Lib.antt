pub mod Places
pub mod Scanning
