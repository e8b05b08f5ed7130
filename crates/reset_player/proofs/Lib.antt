pub mod Asking
pub mod Telling
pub mod Opening
pub mod Ending
pub mod Laws
