pub mod Tally
pub mod Descriptor
