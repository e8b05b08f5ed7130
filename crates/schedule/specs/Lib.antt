pub mod Line
pub mod Parts
pub mod Laws
pub mod Steps
