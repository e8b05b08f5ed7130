pub mod Choice
pub mod Line
pub mod Calls
pub mod Wording
pub mod Steps
pub mod Laws
