pub mod State
pub mod Sound
pub mod Begin
pub mod Calls
pub mod View
pub mod Steps
pub mod Promise
pub mod Laws
