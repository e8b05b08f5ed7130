pub mod Sounding
pub mod Changing
pub mod Replying
pub mod Stepping
pub mod Inviting
pub mod Resulting
pub mod Resetting
pub mod Making
