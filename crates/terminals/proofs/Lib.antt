pub mod Carrying
pub mod Taking
pub mod Hearing
pub mod Freezing
pub mod Receiving
pub mod Whole
