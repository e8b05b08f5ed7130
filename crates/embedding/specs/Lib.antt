pub mod Codes
pub mod Packets
pub mod Lists
pub mod Journals
