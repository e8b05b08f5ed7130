pub mod Message
pub mod Order
