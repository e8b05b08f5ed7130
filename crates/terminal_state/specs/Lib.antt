pub mod Terminal
pub mod Laws
