pub mod Asking
pub mod Telling
pub mod Keeping
pub mod Parts
pub mod Opening
pub mod Laws
