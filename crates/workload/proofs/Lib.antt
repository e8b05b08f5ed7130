pub mod Choosing
pub mod Solid
pub mod Laws
pub mod Examples
