pub mod Lists
pub mod Keeping
pub mod Groups
pub mod Rooms
pub mod Acting
pub mod Opening
pub mod Playing
pub mod Course
