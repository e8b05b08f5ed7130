pub mod Rooms
pub mod Rows
pub mod Calling
pub mod Acting
pub mod Playing
pub mod Opening
