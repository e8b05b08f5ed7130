pub mod Text
pub mod Field
pub mod Written
pub mod LaidAt
pub mod Laws
